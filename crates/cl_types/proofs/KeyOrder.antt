-- The order of keys.
use Rattle.std.proofs.Common.{◌≡◌, ℕ, List, Bool, true, false, nat_eq, Ordering, Less, Equal, Greater, ◌⊎◌, inl, inr, refl, ap, sym, ◌∙◌, true≢false}
use Rattle.std.specs.Ordering.{nat_cmp, is_lt, is_eq, ordering_reverse}
use Rattle.std.specs.Cmp.{IsStrictWeakOrder}
use Rattle.std.specs.Cmp.Lexicographic.{slice_cmp, pointwise, same_text, texts_ties}
use Rattle.std.proofs.lemmas.Bool.{false_from_ne_true, true_from_ne_false, cases_Bool}
use Rattle.std.proofs.lemmas.Cmp.{nat_list_cmp_total}
use Rattle.std.proofs.lemmas.List.Sorted.{ranks_by}
use Rattle.cl_types.specs.Sized.{is_below}

pub keys_ordered : IsStrictWeakOrder is_below
keys_ordered = ranks_by nat_list_cmp_total (λ (k : List ℕ). k)

pub both_no : (b : Bool) → b ≡ true → b ≡ false → ⊥
both_no b p q = true≢false (sym p ∙ q)

pub never_below : (k : List ℕ) → is_below k k ≡ false
never_below k = false_from_ne_true (is_below k k) (λ e. both_no (is_below k k) e (keys_ordered.one_way k k e))

pub below_below : (i j k : List ℕ) → is_below i j ≡ true → is_below j k ≡ true → is_below i k ≡ true
below_below i j k p q =
    true_from_ne_false (is_below i k) (λ n. both_no (is_below i j) p (keys_ordered.chain i k j n (keys_ordered.one_way j k q)))

pub below_differs : (k j : List ℕ) → is_below k j ≡ true → pointwise nat_eq k j ≡ false
below_differs k j p =
    false_from_ne_true (pointwise nat_eq k j) (λ e.
    let same : k ≡ j = same_text k j (sym e) in
    both_no (is_below k j) p (ap (λ (i : List ℕ). is_below k i) (sym same) ∙ never_below k))

pub above_differs : (k j : List ℕ) → is_below j k ≡ true → pointwise nat_eq k j ≡ false
above_differs k j p =
    false_from_ne_true (pointwise nat_eq k j) (λ e.
    let same : k ≡ j = same_text k j (sym e) in
    both_no (is_below j k) p (ap (λ (i : List ℕ). is_below i k) (sym same) ∙ never_below k))

neither : (o p : Ordering) → o ≡ ordering_reverse p → is_lt o ≡ false → is_lt p ≡ false → is_eq o ≡ true
neither Less p e a b = absurd (true≢false a)
neither Equal p e a b = refl
neither Greater Less e a b = absurd (true≢false b)
neither Greater Equal e a b = absurd cc
neither Greater Greater e a b = absurd cc

-- of two keys that differ, one is below the other
pub below_or_above : (k j : List ℕ) → pointwise nat_eq k j ≡ false → is_below j k ≡ false → is_below k j ≡ true
below_or_above k j d n =
    true_from_ne_false (is_below k j) (λ m.
    let tie : is_eq (slice_cmp nat_cmp k j) ≡ true = neither (slice_cmp nat_cmp k j) (slice_cmp nat_cmp j k) (nat_list_cmp_total.antisymm k j) m n in
    both_no (pointwise nat_eq k j) (texts_ties k j ∙ tie) d)

pub same_or_below : (k j : List ℕ) → (k ≡ j) ⊎ ((is_below k j ≡ true) ⊎ (is_below j k ≡ true))
same_or_below k j =
    elim (cases_Bool (pointwise nat_eq k j)) [
      | inl same ↦ inl (same_text k j (sym same))
      | inr other ↦ inr (either other (cases_Bool (is_below j k)))
    ]
  where
    either : pointwise nat_eq k j ≡ false → (is_below j k ≡ true) ⊎ (is_below j k ≡ false) → (is_below k j ≡ true) ⊎ (is_below j k ≡ true)
    either d (inl above) = inr above
    either d (inr no_more) = inl (below_or_above k j d no_more)
