-- The keys that stand behind a place, as a set.
use Rattle.std.proofs.Common.{◌≡◌, ℕ, zero, suc, ◌-◌, ◌<◌, ◌≤◌, ◌||◌, ◌&&◌, Bool, true, false, not, cond, refl, List, [], ◌∷◌, length, drop, get_or, arith, ap, sym, ◌∙◌}
use Rattle.std.specs.List.{list_any}
use Rattle.std.specs.Str.{bytes_eq}
use Rattle.std.specs.Ordering.{nat_cmp}
use Rattle.std.specs.Cmp.Lexicographic.{slice_cmp, nat_list_eq_equiv}
use Rattle.std.specs.BTreeMap.{is_at}
use Rattle.std.specs.BTreeSet.{BTreeSet, contains}
use Rattle.std.proofs.lemmas.Map.Text.{is_eq-slice_cmp}
use Rattle.cl_text.specs.Literal.{are_distinct}

from_at : (ks : List (List ℕ)) (i : ℕ) (k : List ℕ) → i < length ks → k ≡ get_or ks i k → drop i ks ≡ k ∷ drop (suc i) ks
from_at [] i k h is = absurd (omega (arith, h))
from_at (j ∷ ks) zero k h is = ap (λ (x : List ℕ). x ∷ ks) (sym is)
from_at (j ∷ ks) (suc i) k h is = from_at ks i k (omega (arith, h)) is

pub from_place : (ks : List (List ℕ)) (i : ℕ) (k : List ℕ) → 0 < i → i ≤ length ks → k ≡ get_or ks (i - 1) k → drop (i - 1) ks ≡ k ∷ drop i ks
from_place ks i k some within is =
    let here : suc (i - 1) ≡ i = omega arith in
    from_at ks (i - 1) k (omega arith) is ∙ ap (λ (n : ℕ). k ∷ drop n ks) here

cond_or : (b c : Bool) → cond b true c ≡ (b || c)
cond_or true c = refl
cond_or false c = refl

-- a key more
pub kept_more : (old new : BTreeSet (List ℕ)) (k : List ℕ) (ks : List (List ℕ)) → ((q : List ℕ) → contains (slice_cmp nat_cmp) old q ≡ list_any (bytes_eq q) ks) → ((q : List ℕ) → contains (slice_cmp nat_cmp) new q ≡ cond (is_at (slice_cmp nat_cmp k) q) true (contains (slice_cmp nat_cmp) old q)) → (q : List ℕ) → contains (slice_cmp nat_cmp) new q ≡ list_any (bytes_eq q) (k ∷ ks)
kept_more old new k ks kept update q =
    update q
    ∙ cond_or (is_at (slice_cmp nat_cmp k) q) (contains (slice_cmp nat_cmp) old q)
    ∙ λ i. (is_eq-slice_cmp k q ∙ nat_list_eq_equiv.symm k q) i || kept q i

pub distinct_more : (old : BTreeSet (List ℕ)) (k : List ℕ) (ks : List (List ℕ)) → ((q : List ℕ) → contains (slice_cmp nat_cmp) old q ≡ list_any (bytes_eq q) ks) → are_distinct ks ≡ true → are_distinct (k ∷ ks) ≡ not (contains (slice_cmp nat_cmp) old k)
distinct_more old k ks kept distinct = (λ i. not (sym (kept k) i) && distinct i) ∙ both (not (contains (slice_cmp nat_cmp) old k))
  where
    both : (b : Bool) → (b && true) ≡ b
    both true = refl
    both false = refl

pub distinct_from : (ks : List (List ℕ)) (i : ℕ) → are_distinct (drop i ks) ≡ false → are_distinct ks ≡ false
distinct_from ks zero e = e
distinct_from [] (suc i) e = e
distinct_from (k ∷ ks) (suc i) e = ap (λ (b : Bool). not (list_any (bytes_eq k) ks) && b) (distinct_from ks i e) ∙ never (not (list_any (bytes_eq k) ks))
  where
    never : (b : Bool) → (b && false) ≡ false
    never true = refl
    never false = refl
