-- Lists of lines: what stands in them, and lines in order.
use Rattle.std.proofs.Common.{◌≡◌, ℕ, suc, List, [], ◌∷◌, refl, ap, sym, subst, ◌∙◌, arith}
use Rattle.std.specs.Prelude.{Bool, true, false, cond, ◌||◌, map, Contains}
use Rattle.std.specs.List.{list_any, AllByRecursion as ByRecursion}
use Rattle.std.specs.List.{dedup, dedup_from}
use Rattle.std.specs.List.Sorted.{IsPermutation, IsSorted, IsStrictlySortedBy}
use Rattle.std.specs.declared.cmp.Ordering.TheVariants.{Less}
use Rattle.std.specs.Ordering.{eq_by_cmp}
use Rattle.std.specs.Cmp.{both_ways, eq_by_cmp_equiv}
use Rattle.std.proofs.lemmas.Cmp.{on_total}
use Rattle.std.proofs.lemmas.List.Kept.{IsStrictlySortedBy-dedup}
use Rattle.std.proofs.lemmas.List.Sorted.{list_any-IsPermutation}
use Rattle.std.proofs.lemmas.Map.Views.{list_any-from_Contains}
use Rattle.std.proofs.lemmas.Map.Lookups.{btree_set_from_contains, exact_bytes}
use Rattle.cl_maps.specs.Maps.{key_cmp}
use Rattle.cl_maps.proofs.MapLaws.{keys_total, same_keys}
use Rattle.cl_tokens.specs.Table.{is_key}
use Rattle.cl_lines.specs.LineSets.{IsSetOf}

pub listed : (lines : List (List ℕ)) (line : List ℕ) → Contains lines line → list_any (is_key line) lines ≡ true
listed lines line there = list_any-from_Contains (eq_by_cmp_equiv keys_total) line lines there

pub stands : (lines : List (List ℕ)) (line : List ℕ) → list_any (is_key line) lines ≡ true → Contains lines line
stands [] line is = absurd (cc)
stands (x ∷ xs) line is =
    elim (is_key line x) as (λ b. is_key line x ≡ b → (b || list_any (is_key line) xs) ≡ true → Contains (x ∷ xs) line) [
      | true ↦ λ same _. (0, omega arith, sym (same_keys line x same))
      | false ↦ λ _ behind. let rest = stands xs line behind in (suc rest.0, omega (arith, rest.1), rest.2)
    ] refl is

-- lists of the same lines, both rising, are one
pub one_list : (xs ys : List (List ℕ)) → IsStrictlySortedBy key_cmp xs → IsStrictlySortedBy key_cmp ys
    → ((line : List ℕ) → Contains xs line → Contains ys line) → ((line : List ℕ) → Contains ys line → Contains xs line) → xs ≡ ys
one_list xs ys rise climb there back =
    btree_set_from_contains keys_total (record { keys = xs }) (record { keys = ys }) rise climb
    (λ line. both_ways _ _ (λ is. listed ys line (there line (stands xs line is))) (λ is. listed xs line (back line (stands ys line is)))) exact_bytes

-- ------------------------------------------------------------ sorted, each once

twice : (a b : Bool) → (a || b) ≡ (a || (a || b))
twice true b = refl
twice false b = refl

module _ {K : Type 0} (bytes : K → List ℕ) where
  below_bytes : (k : K) (ks : List K) → ByRecursion (λ x. key_cmp (bytes k) (bytes x) ≡ Less) ks → ByRecursion (λ x. key_cmp (bytes k) x ≡ Less) (map bytes ks)
  below_bytes k [] low = tt
  below_bytes k (x ∷ xs) low = (low.0, below_bytes k xs low.1)

  rising_bytes : (ks : List K) → IsStrictlySortedBy (λ a b. key_cmp (bytes a) (bytes b)) ks → IsStrictlySortedBy key_cmp (map bytes ks)
  unfolding IsStrictlySortedBy
  rising_bytes [] rise = tt
  rising_bytes (k ∷ ks) rise = (below_bytes k ks rise.0, rising_bytes ks rise.1)

  any_bytes : (p : List ℕ → Bool) (ks : List K) → list_any p (map bytes ks) ≡ list_any (λ k. p (bytes k)) ks
  any_bytes p [] = refl
  any_bytes p (k ∷ ks) = ap (λ b. p (bytes k) || b) (any_bytes p ks)

  module _ (same : K → K → Bool) (told : (x y : K) → same x y ≡ eq_by_cmp key_cmp (bytes x) (bytes y)) (line : List ℕ) where
    abbrev is : K → Bool
    is k = is_key line (bytes k)

    alike : (x k : K) → same x k ≡ true → is x ≡ is k
    alike x k one = ap (is_key line) (same_keys (bytes x) (bytes k) (sym (told x k) ∙ one))

    any_behind : (k : K) (xs : List K) → list_any is (dedup_from same k xs) ≡ (is k || list_any is xs)
    any_behind k [] = refl
    any_behind k (x ∷ xs) =
        elim (same x k) as (λ b. same x k ≡ b → list_any is (cond b (dedup_from same k xs) (k ∷ dedup_from same x xs)) ≡ (is k || (is x || list_any is xs))) [
          | true ↦ λ one. any_behind k xs ∙ twice (is k) (list_any is xs) ∙ ap (λ b. is k || (b || list_any is xs)) (sym (alike x k one))
          | false ↦ λ _. ap (λ b. is k || b) (any_behind x xs)
        ] refl

    any_kept : (xs : List K) → list_any is (dedup same xs) ≡ list_any is xs
    any_kept [] = refl
    any_kept (x ∷ xs) = any_behind x xs

  -- what is left of the given lines, sorted and each once, is their set
  pub set_of_sorted : (same : K → K → Bool) → ((x y : K) → same x y ≡ eq_by_cmp key_cmp (bytes x) (bytes y)) → (given sorted kept : List K)
      → IsPermutation given sorted → IsSorted (λ a b. key_cmp (bytes a) (bytes b)) sorted → kept ≡ dedup same sorted → IsSetOf (map bytes given) (map bytes kept)
  set_of_sorted same told given sorted kept moved rise left = subst (λ ks. IsSetOf (map bytes given) (map bytes ks)) (sym left) (record {
    rising = rising_bytes (dedup same sorted) (IsStrictlySortedBy-dedup (on_total bytes keys_total) told sorted rise);
    same = λ line.
        any_bytes (is_key line) (dedup same sorted) ∙ any_kept same told line sorted
        ∙ sym (list_any-IsPermutation (λ k. is_key line (bytes k)) given sorted moved) ∙ sym (any_bytes (is_key line) given);
  })
