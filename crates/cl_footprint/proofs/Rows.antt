-- A list with one more, unless it is there.
use Rattle.std.proofs.Common.{◌≡◌, ◌⊎◌, inl, inr, ℕ, zero, suc, ◌<◌, Bool, true, false, List, [], ◌∷◌, ◌++◌, length, Contains, slice_get, refl, sym, subst, append-nil, arith}
use Rattle.std.specs.Prelude.{if◌then◌else◌}
use Rattle.std.specs.List.{list_any}
use Rattle.std.proofs.lemmas.List.Elements.{Contains-push, Contains-append_left, Contains-append_right, Contains-push_cases}
use Rattle.cl_tables.specs.declared.spot.Spot.{Spot}
use Rattle.cl_spots.proofs.Grafts.{some_passes, passes_there}
use Rattle.cl_touch.specs.CallSpots.{AreOnce}
use Rattle.cl_footprint.specs.Gathering.{added}

pub first_or_rest : {X : Type 0} (x : X) (xs : List X) (y : X) → Contains (x ∷ xs) y → (x ≡ y) ⊎ Contains xs y
first_or_rest x xs y (zero, lt, is) = inl is
first_or_rest x xs y (suc k, lt, is) = inr (k, omega (arith, lt), is)

pub in_front : {X : Type 0} (xs ys : List X) (j : ℕ) → j < length xs → slice_get (xs ++ ys) j ≡ slice_get xs j
in_front [] ys j lt = absurd (omega (arith, lt))
in_front (x ∷ xs) ys zero lt = refl
in_front (x ∷ xs) ys (suc j) lt = in_front xs ys j (omega (arith, lt))

module _ {X : Type 0} (equal : X → X → Bool) (exact : (a b : X) → equal a b ≡ true → a ≡ b) (itself : (a : X) → equal a a ≡ true) where
  pub kept_there : (xs : List X) (x y : X) → Contains xs y → Contains (added equal xs x) y
  kept_there xs x y c = by (list_any (equal x) xs)
    where
      by : (b : Bool) → Contains (if b then xs else xs ++ x ∷ []) y
      by true = c
      by false = Contains-append_left xs (x ∷ []) y c

  pub it_is_there : (xs : List X) (x : X) → Contains (added equal xs x) x
  it_is_there xs x = by (list_any (equal x) xs) refl
    where
      by : (b : Bool) → list_any (equal x) xs ≡ b → Contains (if b then xs else xs ++ x ∷ []) x
      by true e = let one = some_passes (equal x) xs e in subst (Contains xs) (sym (exact x one.0 one.2)) one.1
      by false e = Contains-push xs x

  pub there_or_new : (xs : List X) (x y : X) → Contains (added equal xs x) y → Contains xs y ⊎ (x ≡ y)
  there_or_new xs x y = by (list_any (equal x) xs)
    where
      by : (b : Bool) → Contains (if b then xs else xs ++ x ∷ []) y → Contains xs y ⊎ (x ≡ y)
      by true c = inl c
      by false c = Contains-push_cases xs x y c

  pub only_longer : (xs : List X) (x : X) → (more : List X) × (added equal xs x ≡ xs ++ more)
  only_longer xs x = by (list_any (equal x) xs)
    where
      by : (b : Bool) → (more : List X) × ((if b then xs else xs ++ x ∷ []) ≡ xs ++ more)
      by true = ([], sym (append-nil xs))
      by false = (x ∷ [], refl)

-- of spots: each stays once
once_more : (xs : List Spot) (x : Spot) → AreOnce xs → (Contains xs x → ⊥) → AreOnce (xs ++ x ∷ [])
once_more [] x once not = (λ c. absurd (let lt = c.1 in omega (arith, lt)), tt)
once_more (y ∷ xs) x once not = (λ c. by (Contains-push_cases xs x y c), once_more xs x once.1 (λ c. not (Contains-append_right (y ∷ []) xs x c)))
  where
    by : Contains xs y ⊎ (x ≡ y) → ⊥
    by (inl c) = once.0 c
    by (inr e) = not (subst (Contains (y ∷ xs)) (sym e) (Contains-append_left (y ∷ []) xs y (Contains-push [] y)))

pub still_once : (equal : Spot → Spot → Bool) → ((a : Spot) → equal a a ≡ true) → (xs : List Spot) (x : Spot) → AreOnce xs → AreOnce (added equal xs x)
still_once equal itself xs x once = by (list_any (equal x) xs) refl
  where
    by : (b : Bool) → list_any (equal x) xs ≡ b → AreOnce (if b then xs else xs ++ x ∷ [])
    by true e = once
    by false e = once_more xs x once (λ c. let there : list_any (equal x) xs ≡ true = passes_there (equal x) xs x c (itself x) in cc)
