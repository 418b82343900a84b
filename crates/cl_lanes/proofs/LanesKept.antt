-- What the type of a progress keeps of its lanes.
use Rattle.std.proofs.Common.{◌≡◌, ◌⊎◌, inl, inr, ℕ, zero, suc, ◌≤◌, ◌+◌, List, [], ◌∷◌, ◌++◌, length, drop, replicate, slice_get, slice_set, Option, Some, None, sym, ap, subst, ◌∙◌, refl, arith}
use Rattle.std.proofs.lemmas.List.{drop-append-le, length_push}
use Rattle.std.proofs.lemmas.Option.{none-some, same_Some}
use Rattle.cl_meaning.specs.Deployed.{Deployed}
use Rattle.cl_meaning.specs.Kept.{Kept, Whole}
use Rattle.cl_tables.specs.declared.spot.Spot.{Spot}
use Rattle.cl_nodes.specs.Seen.{Seen}
use Rattle.cl_lanes.specs.declared.held.Held.{Held}
use Rattle.cl_lanes.specs.Held.{NoBarrier, IsHeldIn, EachHeld, lanes_seen}
use Rattle.cl_lanes.specs.Lanes.{HeldSeen, Spares}
use Rattle.cl_lanes.proofs.LanesRun.{set_cases}

-- where a trial may be committed, no barrier was
pub no_barrier : (touched : List Spot) (wrote : List (Option (List Spot))) → Spares touched wrote → NoBarrier wrote
no_barrier touched [] h = tt
no_barrier touched (None ∷ more) h = h
no_barrier touched (Some w ∷ more) h = no_barrier touched more h.1

barrier_last : (wrote : List (Option (List Spot))) → NoBarrier (wrote ++ None ∷ []) → ⊥
barrier_last [] h = h
barrier_last (None ∷ more) h = h
barrier_last (Some w ∷ more) h = barrier_last more h

call_last : (wrote : List (Option (List Spot))) (w : List Spot) → NoBarrier (wrote ++ Some w ∷ []) → NoBarrier wrote
call_last [] w h = tt
call_last (None ∷ more) w h = h
call_last (Some v ∷ more) w h = call_last more w h

-- ---- lanes

pub each_put : (n : Seen) (wrote : List (Option (List Spot))) (held : List (Option Held)) (lane : ℕ) (v : Option Held) → ((h : Held) → v ≡ Some h → IsHeldIn n wrote h) → EachHeld n wrote held → EachHeld n wrote (slice_set held lane v)
each_put n wrote held lane v new each j h is = by (set_cases held lane j v (Some h) is)
  where
    by : (v ≡ Some h) ⊎ (slice_get held j ≡ Some (Some h)) → IsHeldIn n wrote h
    by (inl e) = new h e
    by (inr e) = each j h e

pub each_emptied : (n : Seen) (wrote : List (Option (List Spot))) (held : List (Option Held)) (lane : ℕ) → EachHeld n wrote held → EachHeld n wrote (slice_set held lane None)
each_emptied n wrote held lane each = each_put n wrote held lane None (λ h e. absurd (none-some h e)) each

pub each_tried : (n : Seen) (wrote : List (Option (List Spot))) (held : List (Option Held)) (lane : ℕ) (new : Held) → IsHeldIn n wrote new → EachHeld n wrote held → EachHeld n wrote (slice_set held lane (Some new))
each_tried n wrote held lane new good each = each_put n wrote held lane (Some new) (λ h e. subst (IsHeldIn n wrote) (same_Some new h e) good) each

longer : (wrote : List (Option (List Spot))) (w : Option (List Spot)) (k : ℕ) → k ≤ length wrote → k ≤ length (wrote ++ w ∷ [])
longer wrote w k h = let e = length_push wrote w in omega (arith, h, e)

pub each_barrier : (n m : Seen) (wrote : List (Option (List Spot))) (held : List (Option Held)) → EachHeld n wrote held → EachHeld m (wrote ++ None ∷ []) held
each_barrier n m wrote held each lane h is =
    let i : IsHeldIn n wrote h = each lane h is in record {
      entry = i.entry;
      start = longer wrote None h.start i.start;
      base = i.base;
      kept = λ none. absurd (barrier_last (drop h.start wrote) (subst NoBarrier (drop-append-le h.start wrote (None ∷ []) i.start) none));
    }

pub each_call : (n m : Seen) (wrote : List (Option (List Spot))) (w : List Spot) (held : List (Option Held)) → m.contracts ≡ n.contracts → EachHeld n wrote held → EachHeld m (wrote ++ Some w ∷ []) held
each_call n m wrote w held same each lane h is =
    let i : IsHeldIn n wrote h = each lane h is in record {
      entry = i.entry;
      start = longer wrote (Some w) h.start i.start;
      base = i.base;
      kept = λ none.
          subst (λ (W : Deployed). Kept W Whole h.trial.world.stack.top) (sym same)
          (i.kept (call_last (drop h.start wrote) w (subst NoBarrier (drop-append-le h.start wrote (Some w ∷ []) i.start) none)));
    }

-- ---- empty lanes

one_more : {X : Type 0} (n : ℕ) (x : X) → replicate n x ++ x ∷ [] ≡ replicate (suc n) x
one_more zero x = refl
one_more {X} (suc n) x = ap (λ (xs : List X). x ∷ xs) (one_more n x)

pub replicate_push : {X : Type 0} (n : ℕ) (x : X) → replicate n x ++ x ∷ [] ≡ replicate (n + 1) x
replicate_push n x = let more : suc n ≡ n + 1 = omega arith in one_more n x ∙ ap (λ (k : ℕ). replicate k x) more

pub none_there : {X : Type 0} (n lane : ℕ) (h : X) → slice_get (replicate n None) lane ≡ Some (Some h) → ⊥
none_there zero lane h e = none-some (Some h) e
none_there (suc n) zero h e = none-some h (same_Some None (Some h) e)
none_there (suc n) (suc lane) h e = none_there n lane h e

pub none_seen : (n : ℕ) → lanes_seen (replicate n None) ≡ replicate n None
none_seen zero = refl
none_seen (suc n) = ap (λ (xs : List (Option HeldSeen)). None ∷ xs) (none_seen n)
