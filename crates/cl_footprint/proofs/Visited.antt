-- How many of the functions that a call reaches have been visited.
use Rattle.std.proofs.Common.{◌≡◌, ◌⊎◌, inl, inr, ℕ, zero, suc, ◌<◌, ◌≤◌, ◌+◌, List, [], ◌∷◌, ◌++◌, length, Contains, slice_get, Option, Some, None, refl, ap, sym, subst, ◌∙◌, append-nil, append_assoc, arith}
use Rattle.std.proofs.lemmas.List.Elements.{Contains-push, Contains-append_left, Contains-append_right}
use Rattle.std.proofs.lemmas.Option.{none-some, same_Some, slice_get_within, slice_get-get_or}
use Rattle.cl_c32.specs.declared.principal.Principal.{Principal}
use Rattle.cl_tables.specs.declared.place.Place.{Place}
use Rattle.cl_tables.specs.contracts.place.PlacePartialEq.TheImpl as places
use Rattle.cl_tables.specs.declared.spot.Spot.{Spot}
use Rattle.cl_tables.specs.contracts.spot.SpotPartialEq.TheImpl as spots
use Rattle.cl_meaning.specs.Deployed.{Contract, Deployed, Function, contract_at, function_of}
use Rattle.cl_touch.specs.Uses.{Use, Reads, Writes, Applies, Crosses, of_own}
use Rattle.cl_touch.specs.Touches.{natives_at, HasUse, by_read, by_write, at_write, Touched, Written}
use Rattle.cl_touch.specs.Reached.{AppliesTo, own, other, Reaches, itself, further, AreReached, IsUsedIn}
use Rattle.cl_touch.specs.Bodies.{own_uses, uses_of}
use Rattle.cl_touch.specs.CallSpots.{AreOnce, Lists}
use Rattle.cl_touch.proofs.Reached.{touched_from, written_from, reached_touch, reached_write}
use Rattle.cl_footprint.specs.Gathering.{GatheredSeen, and_place, and_spot, with_crossed, with_use, with_uses}
use Rattle.cl_footprint.proofs.Equal.{place_exact, place_itself, spot_exact, spot_itself}
use Rattle.cl_footprint.proofs.Rows.{first_or_rest, in_front, kept_there, it_is_there, there_or_new, only_longer, still_once}

-- below the next number
below_next : (j n : ℕ) → j < n + 1 → (j < n) ⊎ (j ≡ n)
below_next zero zero lt = inr refl
below_next zero (suc n) lt = inl (omega arith)
below_next (suc j) zero lt = absurd (omega (arith, lt))
below_next (suc j) (suc n) lt = more (below_next j n (omega (arith, lt)))
  where
    more : (j < n) ⊎ (j ≡ n) → (suc j < suc n) ⊎ (suc j ≡ suc n)
    more (inl h) = inl (omega (arith, h))
    more (inr h) = inr (ap suc h)

-- ---- uses of a function

pub listed_use : (W : Deployed) (p : Principal) (f : List ℕ) (u : Use) → HasUse W p f u → Contains (uses_of W p f) u
listed_use W p f u h = subst (λ (o : Option Function). Contains (own_uses (natives_at p W) p o) u) (sym h.there) h.used

use_listed : (W : Deployed) (p : Principal) (f : List ℕ) (u : Use) → Contains (uses_of W p f) u → HasUse W p f u
use_listed W p f u = by (function_of f (contract_at p W)) refl
  where
    by : (o : Option Function) → function_of f (contract_at p W) ≡ o → Contains (own_uses (natives_at p W) p o) u → HasUse W p f u
    by None e c = absurd (let lt = c.1 in omega (arith, lt))
    by (Some g) e c = record { function = g; there = e; used = c }

-- ---- what grows

record Grown (g h : GatheredSeen) : Type 0 where
  reached : (more : List Place) × (h.reached ≡ g.reached ++ more)
  places : (e : Place) → Contains g.reached e → Contains h.reached e
  touched : (x : Spot) → Contains g.touched x → Contains h.touched x
  written : (x : Spot) → Contains g.written x → Contains h.written x

as_it_was : (g : GatheredSeen) → Grown g g
as_it_was g = record { reached = ([], sym (append-nil g.reached)); places = λ e c. c; touched = λ x c. c; written = λ x c. c }

then_grown : (g h k : GatheredSeen) → Grown g h → Grown h k → Grown g k
then_grown g h k a b = record {
  reached = (a.reached.0 ++ b.reached.0, b.reached.1 ∙ ap (λ (es : List Place). es ++ b.reached.0) a.reached.1 ∙ append_assoc g.reached a.reached.0 b.reached.0);
  places = λ e c. b.places e (a.places e c);
  touched = λ x c. b.touched x (a.touched x c);
  written = λ x c. b.written x (a.written x c);
}

placed_grows : (g : GatheredSeen) (at : Place) → Grown g (record g { reached = and_place g.reached at })
placed_grows g at = record { reached = only_longer places.eq-value.it place_exact place_itself g.reached at; places = λ e c. kept_there places.eq-value.it place_exact place_itself g.reached at e c; touched = λ x c. c; written = λ x c. c }

module _ (W : Deployed) where
  use_grows : (q : Principal) (u : Use) (g : GatheredSeen) → Grown g (with_use W q u g)
  use_grows q (Reads x) g = record { reached = ([], sym (append-nil g.reached)); places = λ e c. c; touched = λ y c. kept_there spots.eq-value.it spot_exact spot_itself g.touched x y c; written = λ y c. c }
  use_grows q (Writes x) g = record { reached = ([], sym (append-nil g.reached)); places = λ e c. c; touched = λ y c. kept_there spots.eq-value.it spot_exact spot_itself g.touched x y c; written = λ y c. kept_there spots.eq-value.it spot_exact spot_itself g.written x y c }
  use_grows q (Applies f) g = placed_grows g (of_own q f)
  use_grows q (Crosses r f) g = by (contract_at r W)
    where
      by : (o : Option Contract) → Grown g (with_crossed o f g)
      by None = as_it_was g
      by (Some c) = placed_grows g (of_own c.principal f)

  uses_grow : (q : Principal) (us : List Use) (g : GatheredSeen) → Grown g (with_uses W q us g)
  uses_grow q [] g = as_it_was g
  uses_grow q (u ∷ us) g = then_grown g (with_use W q u g) (with_uses W q us (with_use W q u g)) (use_grows q u g) (uses_grow q us (with_use W q u g))

  -- ---- what is there

  abbrev Has : Principal → GatheredSeen → Use → Type 0
  Has q g (Reads x) = Contains g.touched x
  Has q g (Writes x) = Contains g.touched x × Contains g.written x
  Has q g (Applies f) = Contains g.reached (of_own q f)
  Has q g (Crosses r f) = (c : Contract) → contract_at r W ≡ Some c → Contains g.reached (of_own c.principal f)

  has_still : (q : Principal) (g h : GatheredSeen) (u : Use) → Grown g h → Has q g u → Has q h u
  has_still q g h (Reads x) a c = a.touched x c
  has_still q g h (Writes x) a c = (a.touched x c.0, a.written x c.1)
  has_still q g h (Applies f) a c = a.places (of_own q f) c
  has_still q g h (Crosses r f) a k = λ c e. a.places (of_own c.principal f) (k c e)

  has_now : (q : Principal) (g : GatheredSeen) (u : Use) → Has q (with_use W q u g) u
  has_now q g (Reads x) = it_is_there spots.eq-value.it spot_exact spot_itself g.touched x
  has_now q g (Writes x) = (it_is_there spots.eq-value.it spot_exact spot_itself g.touched x, it_is_there spots.eq-value.it spot_exact spot_itself g.written x)
  has_now q g (Applies f) = it_is_there places.eq-value.it place_exact place_itself g.reached (of_own q f)
  has_now q g (Crosses r f) = λ c e. subst (λ (o : Option Contract). Contains (with_crossed o f g).reached (of_own c.principal f)) (sym e) (it_is_there places.eq-value.it place_exact place_itself g.reached (of_own c.principal f))

  has_all : (q : Principal) (us : List Use) (g : GatheredSeen) (u : Use) → Contains us u → Has q (with_uses W q us g) u
  has_all q [] g u c = absurd (let lt = c.1 in omega (arith, lt))
  has_all q (v ∷ us) g u c = by (first_or_rest v us u c) (has_all q us (with_use W q v g) u)
    where
      by : (v ≡ u) ⊎ Contains us u → (Contains us u → Has q (with_uses W q us (with_use W q v g)) u) → Has q (with_uses W q us (with_use W q v g)) u
      by (inl e) more = subst (Has q (with_uses W q us (with_use W q v g))) e (has_still q (with_use W q v g) (with_uses W q us (with_use W q v g)) v (uses_grow q us (with_use W q v g)) (has_now q g v))
      by (inr there) more = more there

  module _ (p : Principal) (f : List ℕ) where
    -- ---- nothing else is there

    record IsSound (g : GatheredSeen) : Type 0 where
      reached : (e : Place) → Contains g.reached e → Reaches W p f e
      touched : (x : Spot) → Contains g.touched x → Touched W p f x
      written : (x : Spot) → Contains g.written x → Written W p f x

    placed_sound : (g : GatheredSeen) (at : Place) → IsSound g → Reaches W p f at → IsSound (record g { reached = and_place g.reached at })
    placed_sound g at s r = record { reached = λ e c. by e (there_or_new places.eq-value.it place_exact place_itself g.reached at e c); touched = s.touched; written = s.written }
      where
        by : (e : Place) → Contains g.reached e ⊎ (at ≡ e) → Reaches W p f e
        by e (inl c) = s.reached e c
        by e (inr is) = subst (Reaches W p f) is r

    spotted : (T : Spot → Type 0) (xs : List Spot) (x : Spot) → ((y : Spot) → Contains xs y → T y) → T x → (y : Spot) → Contains (and_spot xs x) y → T y
    spotted T xs x all one y c = by (there_or_new spots.eq-value.it spot_exact spot_itself xs x y c)
      where
        by : Contains xs y ⊎ (x ≡ y) → T y
        by (inl c) = all y c
        by (inr is) = subst T is one

    use_sound : (at : Place) → Reaches W p f at → (u : Use) → HasUse W at.contract at.name u → (g : GatheredSeen) → IsSound g → IsSound (with_use W at.contract u g)
    use_sound at r (Reads x) h g s = record { reached = s.reached; touched = spotted (Touched W p f) g.touched x s.touched (touched_from W x p f at r (by_read h)); written = s.written }
    use_sound at r (Writes x) h g s = record { reached = s.reached; touched = spotted (Touched W p f) g.touched x s.touched (touched_from W x p f at r (by_write h)); written = spotted (Written W p f) g.written x s.written (written_from W x p f at r (at_write h)) }
    use_sound at r (Applies k) h g s = placed_sound g (of_own at.contract k) s (further at (of_own at.contract k) r (own k h))
    use_sound at r (Crosses q k) h g s = by (contract_at q W) refl
      where
        by : (o : Option Contract) → contract_at q W ≡ o → IsSound (with_crossed o k g)
        by None e = s
        by (Some c) e = placed_sound g (of_own c.principal k) s (further at (of_own c.principal k) r (other q k c h e))

    uses_sound : (at : Place) → Reaches W p f at → (us : List Use) → ((u : Use) → Contains us u → HasUse W at.contract at.name u) → (g : GatheredSeen) → IsSound g → IsSound (with_uses W at.contract us g)
    uses_sound at r [] h g s = s
    uses_sound at r (u ∷ us) h g s =
        uses_sound at r us (λ v c. h v (Contains-append_right (u ∷ []) us v c)) (with_use W at.contract u g) (use_sound at r u (h u (Contains-append_left (u ∷ []) us u (Contains-push [] u))) g s)

  -- ---- each spot once

  record IsOnce (g : GatheredSeen) : Type 0 where
    touched : AreOnce g.touched
    written : AreOnce g.written

  use_once : (q : Principal) (u : Use) (g : GatheredSeen) → IsOnce g → IsOnce (with_use W q u g)
  use_once q (Reads x) g h = record { touched = still_once spots.eq-value.it spot_itself g.touched x h.touched; written = h.written }
  use_once q (Writes x) g h = record { touched = still_once spots.eq-value.it spot_itself g.touched x h.touched; written = still_once spots.eq-value.it spot_itself g.written x h.written }
  use_once q (Applies f) g h = record { touched = h.touched; written = h.written }
  use_once q (Crosses r f) g h = by (contract_at r W)
    where
      by : (o : Option Contract) → IsOnce (with_crossed o f g)
      by None = h
      by (Some c) = record { touched = h.touched; written = h.written }

  uses_once : (q : Principal) (us : List Use) (g : GatheredSeen) → IsOnce g → IsOnce (with_uses W q us g)
  uses_once q [] g h = h
  uses_once q (u ∷ us) g h = uses_once q us (with_use W q u g) (use_once q u g h)

  -- ---- how many have been visited

  module _ (p : Principal) (f : List ℕ) where
    -- the first so many of the functions that are reached have been visited
    pub record IsThrough (n : ℕ) (g : GatheredSeen) : Type 0 where
      first : Contains g.reached (of_own p f)
      sound : IsSound p f g
      once : IsOnce g
      done : (j : ℕ) (e : Place) → j < n → slice_get g.reached j ≡ Some e → (u : Use) → HasUse W e.contract e.name u → Has e.contract g u

    pub none_through : IsThrough 0 (record { reached = of_own p f ∷ []; touched = []; written = [] })
    none_through = record {
      first = Contains-push [] (of_own p f);
      sound = record {
        reached = λ e c. by e (first_or_rest (of_own p f) [] e c);
        touched = λ x c. absurd (nothing x c);
        written = λ x c. absurd (nothing x c);
      };
      once = record { touched = tt; written = tt };
      done = λ j e lt is u h. absurd (omega (arith, lt));
    }
      where
        nothing : {X : Type 0} (x : X) → Contains [] x → ⊥
        nothing x c = let lt = c.1 in omega (arith, lt)

        by : (e : Place) → (of_own p f ≡ e) ⊎ Contains [] e → Reaches W p f e
        by e (inl is) = subst (Reaches W p f) is itself
        by e (inr c) = absurd (nothing e c)

    pub one_further : (n : ℕ) (g h : GatheredSeen) (at : Place) → IsThrough n g → slice_get g.reached n ≡ Some at → h ≡ with_uses W at.contract (uses_of W at.contract at.name) g → IsThrough (n + 1) h
    one_further n g h at t is made = subst (IsThrough (n + 1)) (sym made) (record {
      first = a.places (of_own p f) t.first;
      sound = uses_sound p f at (t.sound.reached at among) (uses_of W at.contract at.name) (use_listed W at.contract at.name) g t.sound;
      once = uses_once at.contract (uses_of W at.contract at.name) g t.once;
      done = λ j e lt there u used. by j e lt (sym (in_front g.reached a.reached.0 j (omega (arith, lt, within))) ∙ ap (λ (es : List Place). slice_get es j) (sym a.reached.1) ∙ there) u used (below_next j n lt);
    })
      where
        a : Grown g (with_uses W at.contract (uses_of W at.contract at.name) g)
        a = uses_grow at.contract (uses_of W at.contract at.name) g

        within : n < length g.reached
        within = slice_get_within g.reached n at is

        among : Contains g.reached at
        among = (n, within, same_Some _ at (sym (slice_get-get_or g.reached n at within) ∙ is))

        by : (j : ℕ) (e : Place) → j < n + 1 → slice_get g.reached j ≡ Some e → (u : Use) → HasUse W e.contract e.name u → (j < n) ⊎ (j ≡ n) → Has e.contract (with_uses W at.contract (uses_of W at.contract at.name) g) u
        by j e lt there u used (inl before) = has_still e.contract g (with_uses W at.contract (uses_of W at.contract at.name) g) u a (t.done j e before there u used)
        by j e lt there u used (inr now) =
            let same : at ≡ e = same_Some at e (sym is ∙ ap (slice_get g.reached) (sym now) ∙ there) in
            subst (λ (e : Place). HasUse W e.contract e.name u → Has e.contract (with_uses W at.contract (uses_of W at.contract at.name) g) u) same
            (λ used. has_all at.contract (uses_of W at.contract at.name) g u (listed_use W at.contract at.name u used)) used

    -- all of them have been visited
    module _ (n : ℕ) (g : GatheredSeen) (t : IsThrough n g) (all : length g.reached ≤ n) where
      done_at : (at : Place) → Contains g.reached at → (u : Use) → HasUse W at.contract at.name u → Has at.contract g u
      done_at at (j, lt, is) u used = t.done j at (omega (arith, lt, all)) (slice_get-get_or g.reached j at lt ∙ ap Some is) u used

      are_reached : AreReached W p f g.reached
      are_reached = record { first = t.first; sound = t.sound.reached; closed = λ at there e step. by at there e step }
        where
          by : (at : Place) → Contains g.reached at → (e : Place) → AppliesTo W at.contract at.name e → Contains g.reached e
          by at there e (own k h) = done_at at there (Applies k) h
          by at there e (other q k c h is) = done_at at there (Crosses q k) h c is

      pub touched_listed : Lists g.touched (Touched W p f)
      touched_listed = record { sound = t.sound.touched; whole = λ x h. by x ((reached_touch W p f g.reached are_reached x).0 h); once = t.once.touched }
        where
          by : (x : Spot) → IsUsedIn W g.reached (Reads x) ⊎ IsUsedIn W g.reached (Writes x) → Contains g.touched x
          by x (inl u) = done_at u.at u.among (Reads x) u.used
          by x (inr u) = (done_at u.at u.among (Writes x) u.used).0

      pub written_listed : Lists g.written (Written W p f)
      written_listed = record { sound = t.sound.written; whole = λ x h. let u = (reached_write W p f g.reached are_reached x).0 h in (done_at u.at u.among (Writes x) u.used).1; once = t.once.written }

pub past_end : {X : Type 0} (xs : List X) (n : ℕ) → slice_get xs n ≡ None → length xs ≤ n
past_end [] n h = omega arith
past_end (x ∷ xs) zero h = absurd (none-some x (sym h))
past_end (x ∷ xs) (suc n) h = let more = past_end xs n h in omega (arith, more)

pub all_listed : (W : Deployed) (p : Principal) (f : List ℕ) (n : ℕ) (g : GatheredSeen) → IsThrough W p f n g → length g.reached ≤ n → Lists g.touched (Touched W p f) × Lists g.written (Written W p f)
all_listed W p f n g t all = (touched_listed W p f n g t all, written_listed W p f n g t all)
