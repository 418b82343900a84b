-- Names that stand twice, where the names seen before are kept.
use Rattle.std.proofs.Common.{◌≡◌, ℕ, Bool, true, false, List, [], ◌∷◌, ◌++◌, refl, ap, sym, ◌∙◌}
use Rattle.std.specs.Prelude.{◌||◌, if◌then◌else◌}
use Rattle.std.specs.List.{list_any}
use Rattle.cl_forms.specs.Names.{same, stands_twice}
use Rattle.cl_forms.proofs.SameNames.{same_turned}

-- whether a name equals one before it, or one of the names that are seen already
abbrev pub repeats : List (List ℕ) → List (List ℕ) → Bool
repeats seen [] = false
repeats seen (x ∷ xs) = if list_any (same x) seen then true else repeats (seen ++ x ∷ []) xs

or_assoc : (a b c : Bool) → ((a || b) || c) ≡ (a || (b || c))
or_assoc true b c = refl
or_assoc false b c = refl

or_swap : (a b c d : Bool) → ((a || b) || (c || d)) ≡ ((a || c) || (b || d))
or_swap true b c d = refl
or_swap false true true d = refl
or_swap false true false d = refl
or_swap false false true d = refl
or_swap false false false d = refl

or_none : (a : Bool) → (a || false) ≡ a
or_none true = refl
or_none false = refl

any_more : (x : List ℕ) (ks : List (List ℕ)) (k : List ℕ) → list_any (same x) (ks ++ k ∷ []) ≡ (list_any (same x) ks || same x k)
any_more x [] k = or_none (same x k)
any_more x (j ∷ ks) k = ap (λ (b : Bool). same x j || b) (any_more x ks k) ∙ sym (or_assoc (same x j) (list_any (same x) ks) (same x k))

abbrev meets : List (List ℕ) → List (List ℕ) → Bool
meets seen xs = list_any (λ x. list_any (same x) seen) xs

meets_more : (seen xs : List (List ℕ)) (k : List ℕ) → meets (seen ++ k ∷ []) xs ≡ (meets seen xs || list_any (same k) xs)
meets_more seen [] k = refl
meets_more seen (x ∷ xs) k =
    (λ i. (any_more x seen k ∙ ap (λ (b : Bool). list_any (same x) seen || b) (same_turned x k)) i || meets_more seen xs k i)
    ∙ or_swap (list_any (same x) seen) (same k x) (meets seen xs) (list_any (same k) xs)

if_or : (a b : Bool) → (if a then true else b) ≡ (a || b)
if_or true b = refl
if_or false b = refl

repeats_is : (seen xs : List (List ℕ)) → repeats seen xs ≡ (meets seen xs || stands_twice xs)
repeats_is seen [] = refl
repeats_is seen (x ∷ xs) =
    if_or (list_any (same x) seen) (repeats (seen ++ x ∷ []) xs)
    ∙ ap (λ (b : Bool). list_any (same x) seen || b) (repeats_is (seen ++ x ∷ []) xs ∙ ap (λ (b : Bool). b || stands_twice xs) (meets_more seen xs x) ∙ or_assoc (meets seen xs) (list_any (same x) xs) (stands_twice xs))
    ∙ sym (or_assoc (list_any (same x) seen) (meets seen xs) (list_any (same x) xs || stands_twice xs))

none_meets : (xs : List (List ℕ)) → meets [] xs ≡ false
none_meets [] = refl
none_meets (x ∷ xs) = none_meets xs

pub twice_is : (xs : List (List ℕ)) → repeats [] xs ≡ stands_twice xs
twice_is xs = repeats_is [] xs ∙ ap (λ (b : Bool). b || stands_twice xs) (none_meets xs)
