-- Rows of numbers in order, and the places that a form names.
use Rattle.std.proofs.Common.{◌≡◌, refl, sym, ap, subst, ◌∙◌, inl, inr, ◌⊎◌, ℕ, zero, suc, ◌<◌, ◌+◌, List, [], ◌∷◌, length, arith, Bool, true, false, nat_eq, eqb-true, if◌then◌else◌, flat_map, slice_get, Option, Some, None, Contains, IsPermutation, IsSorted, nat_cmp, Less, get_or}
use Rattle.std.specs.List.{list_any}
use Rattle.std.specs.List.Sorted.{IsStrictlySortedBy}
use Rattle.std.specs.List.{AllByRecursion}
use Rattle.std.specs.List.Retain.{IsFiltered, DiffersFromLast}
use Rattle.std.specs.List.{dedup}
use Rattle.std.specs.Cmp.{nat_eq_equiv}
use Rattle.std.proofs.lemmas.Bool.{false≢true, or_cases, or_left, or_right}
use Rattle.std.proofs.lemmas.Bool.Decides.{nat_tests}
use Rattle.std.proofs.lemmas.List.Filters.{dedup_is}
use Rattle.std.proofs.lemmas.List.Kept.{Contains-dedup_nat, Contains-from_dedup}
use Rattle.std.proofs.lemmas.List.Sorted.{Contains-permutation, IsPermutation-sym}
use Rattle.std.proofs.lemmas.Map.Keys.{IsStrictlyIncreasing-dedup, sorted_from_strictly_increasing}
use Rattle.std.proofs.lemmas.Map.Views.{list_any-from_Contains, Contains-from_any}
use Rattle.cl_forms.specs.Forms.{Form}
use Rattle.cl_forms.specs.Names.{same, is_among, atoms_of_form, places_from, named_by}
use Rattle.cl_forms.specs.Order.{is_in}
use Rattle.cl_order.specs.Index.{Rows, under, IsIndex}
use Rattle.cl_order.proofs.Members.{same_number, in_front, in_back, in_either}
use Rattle.cl_order.proofs.Named.{Placed, placed, placed_in}

-- each number is below all behind it
abbrev pub Rises : List ℕ → Type 0
Rises [] = Unit {0}
Rises (x ∷ xs) = ((m : ℕ) → is_in m xs ≡ true → x < m) × Rises xs

in_head : (n : ℕ) (ns : List ℕ) → is_in n (n ∷ ns) ≡ true
in_head n ns = or_left (nat_eq n n) (is_in n ns) (same_number n)

in_tail : (n m : ℕ) (ns : List ℕ) → is_in n ns ≡ true → is_in n (m ∷ ns) ≡ true
in_tail n m ns h = or_right (nat_eq n m) (is_in n ns) h

head_or_tail : (n m : ℕ) (ns : List ℕ) → is_in n (m ∷ ns) ≡ true → (n ≡ m) ⊎ (is_in n ns ≡ true)
head_or_tail n m ns h = elim (or_cases (nat_eq n m) (is_in n ns) h) [ inl e ↦ inl (eqb-true n m e) | inr e ↦ inr e ]

abbrev Within : List ℕ → List ℕ → Type 0
Within xs ys = (m : ℕ) → is_in m xs ≡ true → is_in m ys ≡ true

heads_same : (x y : ℕ) (xs ys : List ℕ) → Rises (x ∷ xs) → Rises (y ∷ ys) → Within (x ∷ xs) (y ∷ ys) → Within (y ∷ ys) (x ∷ xs) → x ≡ y
heads_same x y xs ys r s to from =
    elim (head_or_tail x y ys (to x (in_head x xs))) [
      | inl e ↦ e
      | inr h ↦ elim (head_or_tail y x xs (from y (in_head y ys))) [
        | inl e ↦ sym e
        | inr k ↦ absurd (let low : y < x = s.0 x h in let high : x < y = r.0 y k in omega arith)
      ]
    ]

tails_within : (x y : ℕ) (xs ys : List ℕ) → x ≡ y → Rises (x ∷ xs) → Within (x ∷ xs) (y ∷ ys) → Within xs ys
tails_within x y xs ys same r to m h =
    elim (head_or_tail m y ys (to m (in_tail m x xs h))) [
      | inl e ↦ absurd (let above : x < m = r.0 m h in omega arith)
      | inr k ↦ k
    ]

-- rows that rise and have the same members are one
pub same_rises : (xs ys : List ℕ) → Rises xs → Rises ys → Within xs ys → Within ys xs → xs ≡ ys
same_rises [] [] r s to from = refl
same_rises [] (y ∷ ys) r s to from = absurd (false≢true (from y (in_head y ys)))
same_rises (x ∷ xs) [] r s to from = absurd (false≢true (to x (in_head x xs)))
same_rises (x ∷ xs) (y ∷ ys) r s to from =
    let heads : x ≡ y = heads_same x y xs ys r s to from in
    let tails : xs ≡ ys = same_rises xs ys r.1 s.1 (tails_within x y xs ys heads r to) (tails_within y x ys xs (sym heads) s from) in
    λ i. heads i ∷ tails i

-- ---- places rise

low_rises : (b : Bool) (k : ℕ) (rest : List ℕ) → ((m : ℕ) → is_in m rest ≡ true → k < m) → Rises rest → Rises (if b then k ∷ rest else rest)
low_rises true k rest low r = (low, r)
low_rises false k rest low r = r

places_rise : (k : ℕ) (xs : List (List ℕ)) (fs : List Form) → Rises (places_from k xs fs)
places_rise k xs [] = tt
places_rise k xs (f ∷ fs) =
    low_rises (is_among xs f.name) k (places_from (k + 1) xs fs)
    (λ m h. let p : Placed xs fs (k + 1) m = placed xs fs (k + 1) m h in let at : m ≡ (k + 1) + p.turn = p.at in omega arith)
    (places_rise (k + 1) xs fs)

-- ---- what a sort and a dedup leave

less_below : (x y : ℕ) → nat_cmp x y ≡ Less → x < y
less_below x y h = grind (arith, nat_tests)

all_below : (x : ℕ) (xs : List ℕ) → AllByRecursion (λ y. nat_cmp x y ≡ Less) xs → (m : ℕ) → is_in m xs ≡ true → x < m
all_below x [] all m h = absurd (false≢true h)
all_below x (y ∷ ys) all m h =
    elim (head_or_tail m y ys h) [
      | inl e ↦ (let low : x < y = less_below x y all.0 in omega arith)
      | inr k ↦ all_below x ys all.1 m k
    ]

sorted_rises : (xs : List ℕ) → IsStrictlySortedBy nat_cmp xs → Rises xs
unfolding IsStrictlySortedBy
sorted_rises [] s = tt
sorted_rises (x ∷ xs) s = (all_below x xs s.0, sorted_rises xs s.1)

contained : (m : ℕ) (xs : List ℕ) → is_in m xs ≡ true → Contains xs m
contained m xs h = Contains-from_any eqb-true m xs h

contained_in : (m : ℕ) (xs : List ℕ) → Contains xs m → is_in m xs ≡ true
contained_in m xs h = list_any-from_Contains nat_eq_equiv m xs h

-- ---- the names of many atoms

among_one : (x : List ℕ) (xs : List (List ℕ)) (o : Option (List ℕ)) → is_among (x ∷ xs) o ≡ true → (is_among (x ∷ []) o ≡ true) ⊎ (is_among xs o ≡ true)
among_one x xs None h = absurd (false≢true h)
among_one x xs (Some y) h = elim (or_cases (same y x) (list_any (same y) xs) h) [ inl e ↦ inl (or_left (same y x) false e) | inr e ↦ inr e ]

among_none : (o : Option (List ℕ)) → is_among [] o ≡ true → ⊥
among_none None h = false≢true h
among_none (Some y) h = false≢true h

among_first : (x : List ℕ) (xs : List (List ℕ)) (o : Option (List ℕ)) → is_among (x ∷ []) o ≡ true → is_among (x ∷ xs) o ≡ true
among_first x xs None h = absurd (false≢true h)
among_first x xs (Some y) h = elim (or_cases (same y x) false h) [ inl e ↦ or_left (same y x) (list_any (same y) xs) e | inr e ↦ absurd (false≢true e) ]

among_rest : (x : List ℕ) (xs : List (List ℕ)) (o : Option (List ℕ)) → is_among xs o ≡ true → is_among (x ∷ xs) o ≡ true
among_rest x xs None h = absurd (false≢true h)
among_rest x xs (Some y) h = or_right (same y x) (list_any (same y) xs) h

again : (forms : List Form) (m : ℕ) (xs ys : List (List ℕ)) (p : Placed xs forms 0 m) → is_among ys p.form.name ≡ true → is_in m (places_from 0 ys forms) ≡ true
again forms m xs ys p h =
    let at : 0 + p.turn ≡ m = let e : m ≡ 0 + p.turn = p.at in omega arith in
    subst (λ (n : ℕ). is_in n (places_from 0 ys forms) ≡ true) at (placed_in ys forms 0 p.turn p.form p.there h)

module _ (forms : List Form) (f : List ℕ → List ℕ) (rows : (x : List ℕ) → f x ≡ places_from 0 (x ∷ []) forms) where
  all_named : (xs : List (List ℕ)) → Within (flat_map f xs) (places_from 0 xs forms)
  all_named [] m h = absurd (false≢true h)
  all_named (x ∷ xs) m h =
      elim (in_either m (f x) (flat_map f xs) h) [
        | inl e ↦
            (let p : Placed (x ∷ []) forms 0 m = placed (x ∷ []) forms 0 m (subst (λ (l : List ℕ). is_in m l ≡ true) (rows x) e) in
            again forms m (x ∷ []) (x ∷ xs) p (among_first x xs p.form.name p.among))
        | inr e ↦
            (let p : Placed xs forms 0 m = placed xs forms 0 m (all_named xs m e) in
            again forms m xs (x ∷ xs) p (among_rest x xs p.form.name p.among))
      ]

  named_at : (xs : List (List ℕ)) (m : ℕ) → Placed xs forms 0 m → is_in m (flat_map f xs) ≡ true
  named_at [] m p = absurd (among_none p.form.name p.among)
  named_at (x ∷ xs) m p =
      elim (among_one x xs p.form.name p.among) [
        | inl e ↦ in_front m (f x) (flat_map f xs) (subst (λ (l : List ℕ). is_in m l ≡ true) (sym (rows x)) (again forms m (x ∷ xs) (x ∷ []) p e))
        | inr e ↦ in_back m (f x) (flat_map f xs) (named_at xs m (record { turn = p.turn; form = p.form; at = p.at; there = p.there; among = e }))
      ]

  named_all : (xs : List (List ℕ)) → Within (places_from 0 xs forms) (flat_map f xs)
  named_all xs m h = named_at xs m (placed xs forms 0 m h)

at_place : {A : Type 0} (xs : List A) (i : ℕ) (x : A) → i < length xs → x ≡ get_or xs i x → slice_get xs i ≡ Some x
at_place [] i x low is = absurd (omega arith)
at_place (y ∷ ys) zero x low is = ap (λ z. Some z) (sym is)
at_place (y ∷ ys) (suc i) x low is = at_place ys i x (omega arith) is

pub places_named : (forms : List Form) (rows : Rows) (place : ℕ) (form : Form) (found sorted new : List ℕ) → IsIndex forms rows → place < length forms → form ≡ get_or forms place form → found ≡ flat_map (under rows) (atoms_of_form form) → IsPermutation found sorted → IsSorted nat_cmp sorted → IsFiltered (DiffersFromLast nat_eq) [] sorted new → new ≡ named_by forms (slice_get forms place)
unfolding IsIndex
places_named forms rows place form found sorted new index low is all permuted rising filtered =
    let left : new ≡ dedup nat_eq sorted = dedup_is nat_eq sorted new filtered in
    let to : Within (dedup nat_eq sorted) (places_from 0 (atoms_of_form form) forms) =
    λ m h. all_named forms (under rows) index (atoms_of_form form) m (subst (λ (l : List ℕ). is_in m l ≡ true) all
    (contained_in m found (Contains-permutation sorted found m (IsPermutation-sym found sorted permuted) (Contains-from_dedup nat_eq sorted m (contained m (dedup nat_eq sorted) h))))) in
    let from : Within (places_from 0 (atoms_of_form form) forms) (dedup nat_eq sorted) =
    λ m h. contained_in m (dedup nat_eq sorted) (Contains-dedup_nat sorted m (Contains-permutation found sorted m permuted
    (contained m found (subst (λ (l : List ℕ). is_in m l ≡ true) (sym all) (named_all forms (under rows) index (atoms_of_form form) m h))))) in
    left
    ∙ same_rises (dedup nat_eq sorted) (places_from 0 (atoms_of_form form) forms) (sorted_rises (dedup nat_eq sorted) (sorted_from_strictly_increasing (dedup nat_eq sorted) (IsStrictlyIncreasing-dedup sorted rising))) (places_rise 0 (atoms_of_form form) forms) to from
    ∙ sym (ap (named_by forms) (at_place forms place form low is))
