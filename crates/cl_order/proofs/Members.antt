-- Members of rows of numbers.
use Rattle.std.proofs.Common.{◌≡◌, refl, sym, ap, subst, ◌∙◌, inl, inr, ◌⊎◌, ℕ, List, [], ◌∷◌, ◌++◌, Bool, true, false, nat_eq, eq-eqb, ne_eqb, eqb-true}
use Rattle.std.specs.List.{IsDistinct}
use Rattle.std.specs.Cmp.{nat_eq_equiv}
use Rattle.std.proofs.lemmas.Bool.{or_cases, or_left, or_right, or_from, true≢false}
use Rattle.std.proofs.lemmas.List.Folds.{list_any-append}
use Rattle.std.proofs.lemmas.Map.Keys.{IsDistinct-push}
use Rattle.cl_forms.specs.Order.{is_in}

pub same_number : (n : ℕ) → nat_eq n n ≡ true
same_number n = eq-eqb n n refl

pub both : (b : Bool) → b ≡ true → b ≡ false → ⊥
both b t f = true≢false (sym t ∙ f)

pub in_front : (n : ℕ) (xs ys : List ℕ) → is_in n xs ≡ true → is_in n (xs ++ ys) ≡ true
in_front n xs ys h = list_any-append (nat_eq n) xs ys ∙ or_left (is_in n xs) (is_in n ys) h

pub in_back : (n : ℕ) (xs ys : List ℕ) → is_in n ys ≡ true → is_in n (xs ++ ys) ≡ true
in_back n xs ys h = list_any-append (nat_eq n) xs ys ∙ or_right (is_in n xs) (is_in n ys) h

pub in_either : (n : ℕ) (xs ys : List ℕ) → is_in n (xs ++ ys) ≡ true → (is_in n xs ≡ true) ⊎ (is_in n ys ≡ true)
in_either n xs ys h = or_cases (is_in n xs) (is_in n ys) (sym (list_any-append (nat_eq n) xs ys) ∙ h)

pub in_one : (n m : ℕ) → is_in n (m ∷ []) ≡ true → n ≡ m
in_one n m h = elim (or_cases (nat_eq n m) false h) [ inl e ↦ eqb-true n m e | inr e ↦ absurd (true≢false (sym e)) ]

pub in_last : (n : ℕ) (xs : List ℕ) → is_in n (xs ++ n ∷ []) ≡ true
in_last n xs = in_back n xs (n ∷ []) (or_left (nat_eq n n) false (same_number n))

pub in_pushed : (n m : ℕ) (xs : List ℕ) → is_in n (xs ++ m ∷ []) ≡ true → (is_in n xs ≡ true) ⊎ (n ≡ m)
in_pushed n m xs h = elim (in_either n xs (m ∷ []) h) [ inl e ↦ inl e | inr e ↦ inr (in_one n m e) ]

pub not_in_pushed : (n m : ℕ) (xs : List ℕ) → is_in n xs ≡ false → (n ≡ m → ⊥) → is_in n (xs ++ m ∷ []) ≡ false
not_in_pushed n m xs h ne = list_any-append (nat_eq n) xs (m ∷ []) ∙ or_from (is_in n xs) (is_in n (m ∷ [])) h (or_from (nat_eq n m) false (ne_eqb n m ne) refl)

-- two numbers, of which one is a member and the other isn't, differ
pub members_differ : (n m : ℕ) (xs : List ℕ) → is_in n xs ≡ true → is_in m xs ≡ false → n ≡ m → ⊥
members_differ n m xs t f e = both (is_in m xs) (subst (λ (k : ℕ). is_in k xs ≡ true) e t) f

pub distinct_pushed : (xs : List ℕ) (n : ℕ) → IsDistinct nat_eq xs → is_in n xs ≡ false → IsDistinct nat_eq (xs ++ n ∷ [])
distinct_pushed xs n = IsDistinct-push nat_eq_equiv xs n

-- a row that ends with one number, cut at a number: the number is the last, or stands in the row before it
pub cut_pushed : (front : List ℕ) (n : ℕ) (back xs : List ℕ) (m : ℕ) → front ++ n ∷ back ≡ xs ++ m ∷ [] → ((front ≡ xs) × (n ≡ m)) ⊎ ((rest : List ℕ) × (xs ≡ front ++ n ∷ rest))
cut_pushed [] n back [] m e = inl (refl, cc)
cut_pushed [] n back (x ∷ xs) m e = inr (xs, let h : x ≡ n = cc in ap (λ (k : ℕ). k ∷ xs) h)
cut_pushed (f ∷ []) n back [] m e = cc
cut_pushed (f ∷ g ∷ front) n back [] m e = cc
cut_pushed (f ∷ front) n back (x ∷ xs) m e =
    let tails : front ++ n ∷ back ≡ xs ++ m ∷ [] = cc in
    let heads : f ≡ x = cc in
    elim (cut_pushed front n back xs m tails) [
      | inl p ↦ inl ((λ i. heads i ∷ p.0 i), p.1)
      | inr q ↦ inr (q.0, λ i. sym heads i ∷ q.1 i)
    ]
