-- Whether entries spared spots.
use Rattle.std.proofs.Common.{◌≡◌, ◌⊎◌, inl, inr, ℕ, zero, suc, ◌<◌, ◌+◌, true, false, List, [], ◌∷◌, ◌++◌, length, take, get_or, slice_get, Contains, Option, Some, None, sym, ap, subst, ◌∙◌, arith}
use Rattle.std.proofs.lemmas.List.{take_more}
use Rattle.std.proofs.lemmas.Option.{slice_get-get_or}
use Rattle.std.proofs.lemmas.List.Elements.{Contains-push, Contains-append_left, Contains-push_cases}
use Rattle.cl_tables.specs.declared.spot.Spot.{Spot}
use Rattle.cl_tables.specs.contracts.spot.SpotPartialEq.TheImpl as spots
use Rattle.cl_spots.proofs.Grafts.{some_passes, passes_there}
use Rattle.cl_footprint.specs.Gathering.{and_spot}
use Rattle.cl_footprint.proofs.Equal.{spot_exact, spot_itself}
use Rattle.cl_footprint.proofs.Rows.{kept_there, it_is_there, there_or_new}
use Rattle.cl_lanes.specs.Lanes.{Spares}
use Rattle.cl_lanes.specs.Ready.{SparesOne, is_among}
use Rattle.cl_lanes.specs.Same.{AreSame}

-- ---- one entry

module _ {X : Type 0} (P : List X → Type 0) where
  -- one more of a list
  pub taken_more : (xs : List X) (n : ℕ) (y : X) → n < length xs → get_or xs n y ≡ y → P (take n xs ++ y ∷ []) → P (take (n + 1) xs)
  taken_more xs n y lt at h = subst P (sym (take_more xs n y lt ∙ ap (λ (z : X). take n xs ++ z ∷ []) at)) h

pub spared_more : (touched wrote : List Spot) (y : Spot) → SparesOne touched wrote → is_among touched y ≡ false → SparesOne touched (wrote ++ y ∷ [])
spared_more touched wrote y h none x c d = by (Contains-push_cases wrote y x d)
  where
    by : Contains wrote x ⊎ (y ≡ x) → ⊥
    by (inl there) = h x c there
    by (inr is) = let found : is_among touched y ≡ true = passes_there (spots.eq-value.it y) touched y (subst (Contains touched) (sym is) c) (spot_itself y) in absurd cc

pub not_spared : (touched wrote : List Spot) (n : ℕ) (y : Spot) → n < length wrote → get_or wrote n y ≡ y → is_among touched y ≡ true → SparesOne touched wrote → ⊥
not_spared touched wrote n y lt at found h =
    let one = some_passes (spots.eq-value.it y) touched found in
    h y (subst (Contains touched) (sym (spot_exact y one.0 one.2)) one.1) (n, lt, at)

-- ---- all entries

pub spares_push : (touched : List Spot) (ws : List (Option (List Spot))) (w : Option (List Spot)) → Spares touched ws → Spares touched (w ∷ []) → Spares touched (ws ++ w ∷ [])
spares_push touched [] w h k = k
spares_push touched (None ∷ ws) w h k = h
spares_push touched (Some v ∷ ws) w h k = (h.0, spares_push touched ws w h.1 k)

pub spares_at : (touched : List Spot) (ws : List (Option (List Spot))) (n : ℕ) (w : Option (List Spot)) → n < length ws → get_or ws n w ≡ w → Spares touched ws → Spares touched (w ∷ [])
spares_at touched [] n w lt at h = absurd (omega (arith, lt))
spares_at touched (v ∷ ws) zero w lt at h = subst (λ (w : Option (List Spot)). Spares touched (w ∷ [])) at (first v ws h)
  where
    first : (v : Option (List Spot)) (ws : List (Option (List Spot))) → Spares touched (v ∷ ws) → Spares touched (v ∷ [])
    first None ws h = h
    first (Some v) ws h = (h.0, tt)
spares_at touched (v ∷ ws) (suc n) w lt at h = spares_at touched ws n w (omega (arith, lt)) at (rest v ws h)
  where
    rest : (v : Option (List Spot)) (ws : List (Option (List Spot))) → Spares touched (v ∷ ws) → Spares touched ws
    rest None ws h = absurd h
    rest (Some v) ws h = h.1

pub spares_as : (t u : List Spot) → AreSame t u → (ws : List (Option (List Spot))) → Spares t ws → Spares u ws
spares_as t u same [] h = h
spares_as t u same (None ∷ ws) h = h
spares_as t u same (Some w ∷ ws) h = (λ x c d. h.0 x ((same x).1 c) d, spares_as t u same ws h.1)

pub same_back : (t u : List Spot) → AreSame t u → AreSame u t
same_back t u same x = ((same x).1, (same x).0)

-- ---- a list as a set

pub same_more : (set list : List Spot) (y : Spot) → AreSame set list → AreSame (and_spot set y) (list ++ y ∷ [])
same_more set list y same x = (λ c. there (there_or_new spots.eq-value.it spot_exact spot_itself set y x c), λ c. back (Contains-push_cases list y x c))
  where
    there : Contains set x ⊎ (y ≡ x) → Contains (list ++ y ∷ []) x
    there (inl c) = Contains-append_left list (y ∷ []) x ((same x).0 c)
    there (inr is) = subst (Contains (list ++ y ∷ [])) is (Contains-push list y)

    back : Contains list x ⊎ (y ≡ x) → Contains (and_spot set y) x
    back (inl c) = kept_there spots.eq-value.it spot_exact spot_itself set y x ((same x).1 c)
    back (inr is) = subst (Contains (and_spot set y)) is (it_is_there spots.eq-value.it spot_exact spot_itself set y)

-- ---- lanes

-- what a lane was found to hold
pub held_there : {X : Type 0} (xs : List (Option X)) (i : ℕ) (r : Option X) (h : X) → i < length xs → r ≡ get_or xs i r → r ≡ Some h → slice_get xs i ≡ Some (Some h)
held_there {X} xs i r h lt at is = slice_get-get_or xs i r lt ∙ ap (λ (o : Option X). Some o) (sym at ∙ is)
