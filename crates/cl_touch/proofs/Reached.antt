-- The spots of a function are those of the functions that it reaches.
use Rattle.std.proofs.Common.{◌⊎◌, inl, inr, ℕ, List, Contains}
use Rattle.cl_c32.specs.declared.principal.Principal.{Principal}
use Rattle.cl_meaning.specs.Deployed.{Deployed}
use Rattle.cl_tables.specs.declared.spot.Spot.{Spot}
use Rattle.cl_touch.specs.Uses.{Use, Reads, Writes, of_own}
use Rattle.cl_tables.specs.declared.place.Place.{Place}
use Rattle.cl_touch.specs.Touches.{HasUse, Touches, by_read, by_write, by_function, by_contract, WritesAt, at_write, at_function, at_contract, Touched}
use Rattle.cl_touch.specs.Reached.{AppliesTo, own, other, Reaches, itself, further, AreReached, IsUsedIn}
use Rattle.cl_touch.specs.Laws.{ReachedTouch, ReachedWrite}

-- ---- all that is touched is used by one that is reached

module _ (W : Deployed) (p : Principal) (f : List ℕ) (reached : List Place) (A : AreReached W p f reached) where
  one_used : (u : Use) (q : Principal) (g : List ℕ) → Contains reached (of_own q g) → HasUse W q g u → IsUsedIn W reached u
  one_used u q g among used = record { at = of_own q g; among = among; used = used }

  touched_used : (x : Spot) (q : Principal) (g : List ℕ) → Contains reached (of_own q g) → Touches W x q g → IsUsedIn W reached (Reads x) ⊎ IsUsedIn W reached (Writes x)
  touched_used x q g among (by_read u) = inl (one_used (Reads x) q g among u)
  touched_used x q g among (by_write u) = inr (one_used (Writes x) q g among u)
  touched_used x q g among (by_function h u t) = touched_used x q h (A.closed (of_own q g) among (of_own q h) (own h u)) t
  touched_used x q g among (by_contract r h c u at t) = touched_used x c.principal h (A.closed (of_own q g) among (of_own c.principal h) (other r h c u at)) t

  written_used : (x : Spot) (q : Principal) (g : List ℕ) → Contains reached (of_own q g) → WritesAt W x q g → IsUsedIn W reached (Writes x)
  written_used x q g among (at_write u) = one_used (Writes x) q g among u
  written_used x q g among (at_function h u t) = written_used x q h (A.closed (of_own q g) among (of_own q h) (own h u)) t
  written_used x q g among (at_contract r h c u at t) = written_used x c.principal h (A.closed (of_own q g) among (of_own c.principal h) (other r h c u at)) t

-- ---- what is used by one that is reached is touched

module _ (W : Deployed) (x : Spot) where
  touched_before : (q : Principal) (g : List ℕ) (e : Place) → AppliesTo W q g e → Touches W x e.contract e.name → Touches W x q g
  touched_before q g e (own h u) t = by_function h u t
  touched_before q g e (other r h c u at) t = by_contract r h c u at t

  pub touched_from : (p : Principal) (f : List ℕ) (e : Place) → Reaches W p f e → Touches W x e.contract e.name → Touches W x p f
  touched_from p f e itself t = t
  touched_from p f e (further at _ more step) t = touched_from p f at more (touched_before at.contract at.name e step t)

  written_before : (q : Principal) (g : List ℕ) (e : Place) → AppliesTo W q g e → WritesAt W x e.contract e.name → WritesAt W x q g
  written_before q g e (own h u) t = at_function h u t
  written_before q g e (other r h c u at) t = at_contract r h c u at t

  pub written_from : (p : Principal) (f : List ℕ) (e : Place) → Reaches W p f e → WritesAt W x e.contract e.name → WritesAt W x p f
  written_from p f e itself t = t
  written_from p f e (further at _ more step) t = written_from p f at more (written_before at.contract at.name e step t)

pub reached_touch : ReachedTouch
reached_touch W p f reached A x = (touched_used W p f reached A x p f A.first, back)
  where
    back : IsUsedIn W reached (Reads x) ⊎ IsUsedIn W reached (Writes x) → Touched W p f x
    back (inl u) = touched_from W x p f u.at (A.sound u.at u.among) (by_read u.used)
    back (inr u) = touched_from W x p f u.at (A.sound u.at u.among) (by_write u.used)

pub reached_write : ReachedWrite
reached_write W p f reached A x = (written_used W p f reached A x p f A.first, λ u. written_from W x p f u.at (A.sound u.at u.among) (at_write u.used))
