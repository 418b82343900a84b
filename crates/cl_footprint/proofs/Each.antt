-- Each of a list, one after another.
use Rattle.std.proofs.Common.{◌≡◌, ℕ, zero, suc, ◌<◌, ◌≤◌, ◌+◌, List, [], ◌∷◌, ◌++◌, length, take, get_or, Contains, ap, sym, subst, ◌∙◌, take_all, arith}
use Rattle.std.specs.List.{AllByRecursion}
use Rattle.std.proofs.lemmas.List.{take_more}
use Rattle.cl_c32.specs.declared.principal.Principal.{Principal}
use Rattle.cl_meaning.specs.Deployed.{Deployed}
use Rattle.cl_tables.specs.declared.spot.Spot.{Spot}
use Rattle.cl_spots.specs.Spots.{IsSpot}
use Rattle.cl_touch.specs.Touches.{Touched, Written}
use Rattle.cl_touch.specs.CallSpots.{IsCallable, Lists, IsFootprint}

module _ {X : Type 0} (P : X → Type 0) where
  one_more : (xs : List X) (y : X) → AllByRecursion P xs → P y → AllByRecursion P (xs ++ y ∷ [])
  one_more [] y h p = (p, tt)
  one_more (x ∷ xs) y h p = (h.0, one_more xs y h.1 p)

  pub taken_more : (xs : List X) (n : ℕ) (y : X) → n < length xs → get_or xs n y ≡ y → AllByRecursion P (take n xs) → P y → AllByRecursion P (take (n + 1) xs)
  taken_more xs n y lt at h p = subst (AllByRecursion P) (sym (take_more xs n y lt ∙ ap (λ (z : X). take n xs ++ z ∷ []) at)) (one_more (take n xs) y h p)

  pub taken_all : (xs : List X) (n : ℕ) → length xs ≤ n → AllByRecursion P (take n xs) → AllByRecursion P xs
  taken_all xs n le h = subst (AllByRecursion P) (take_all n xs le) h

  pub each_there : (xs : List X) → AllByRecursion P xs → (x : X) → Contains xs x → P x
  each_there [] h x c = absurd (let lt = c.1 in omega (arith, lt))
  each_there (y ∷ xs) h x (zero, lt, is) = subst P is h.0
  each_there (y ∷ xs) h x (suc k, lt, is) = each_there xs h.1 x (k, omega (arith, lt), is)

-- ---- the spots of a call

module _ (W : Deployed) (p : Principal) (f : List ℕ) where
  -- of a call that is refused by its first three tests
  pub none_found : (IsCallable W p f → ⊥) → (touched written : List Spot) → touched ≡ [] → written ≡ [] → IsFootprint W p f touched written
  none_found refused touched written no_touched no_written =
      subst (λ (written : List Spot). IsFootprint W p f touched written) (sym no_written) (subst (λ (touched : List Spot). IsFootprint W p f touched []) (sym no_touched) (record {
        touches = record { sound = λ x c. absurd (nothing x c); whole = λ x h. absurd (refused h.0); once = tt };
        writes = record { sound = λ x c. absurd (nothing x c); whole = λ x h. absurd (refused h.0); once = tt };
        valid = λ x c. absurd (nothing x c);
      }))
    where
      nothing : (x : Spot) → Contains [] x → ⊥
      nothing x c = let lt = c.1 in omega (arith, lt)

  -- of any other
  pub all_found : IsCallable W p f → (touched written seen : List Spot) → Lists touched (Touched W p f) × Lists written (Written W p f) → seen ≡ touched → AllByRecursion IsSpot seen → IsFootprint W p f touched written
  all_found callable touched written seen both same valid = record {
    touches = record { sound = λ x c. (callable, both.0.sound x c); whole = λ x h. both.0.whole x h.1; once = both.0.once };
    writes = record { sound = λ x c. (callable, both.1.sound x c); whole = λ x h. both.1.whole x h.1; once = both.1.once };
    valid = each_there IsSpot touched (subst (AllByRecursion IsSpot) same valid);
  }
