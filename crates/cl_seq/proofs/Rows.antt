-- One more entry at the end of a tuple.
use Rattle.std.proofs.Common.{◌≡◌, ◌<◌, ℕ, ◌+◌, max, true, List, [], ◌∷◌, ◌++◌, length, refl, ap, sym, ◌∙◌, arith, subst}
use Rattle.std.proofs.lemmas.Bool.{and_parts, and_from}
use Rattle.cl_types.specs.Name.{IsName}
use Rattle.cl_values.specs.Tree.{Tree, TupleV, Entries, entries_of, depth_of, entries_depth}
use Rattle.cl_values.specs.Wire.{entries_size, size_of}
use Rattle.cl_values.specs.Computed.{Gives, Undefined, kept}
use Rattle.cl_values.specs.Valid.{IsVal, EntriesInRange, has_rising_keys, has_good_texts, entries_have_rising_keys, entries_have_good_texts, rises}
use Rattle.cl_seq.specs.Fine.{IsFine}
use Rattle.cl_seq.proofs.Entries.{beyond}

-- what holds of the entries of a tuple but for the order of their keys
pub record AreFine (es : Entries) : Type 0 where
  pub ranges : EntriesInRange es
  pub keys : entries_have_rising_keys es ≡ true
  pub texts : entries_have_good_texts es ≡ true

both_sizes : (xs ys : List (List ℕ × Tree)) → entries_size (entries_of (xs ++ ys)) ≡ entries_size (entries_of xs) + entries_size (entries_of ys)
both_sizes [] ys = omega arith
both_sizes (x ∷ xs) ys = omega (arith, both_sizes xs ys)

both_depths : (xs ys : List (List ℕ × Tree)) → entries_depth (entries_of (xs ++ ys)) ≡ max (entries_depth (entries_of xs)) (entries_depth (entries_of ys))
both_depths [] ys = omega arith
both_depths (x ∷ xs) ys = omega (arith, both_depths xs ys)

row_added : (xs : List (List ℕ × Tree)) (k : List ℕ) (v : Tree) → AreFine (entries_of xs) → IsName k → IsVal v → AreFine (entries_of (xs ++ (k, v) ∷ []))
row_added [] k v h n g = record { ranges = (n, g.ranges, tt); keys = and_from (has_rising_keys v) true g.keys refl; texts = and_from (has_good_texts v) true g.texts refl }
row_added (x ∷ xs) k v h n g =
    let keys = and_parts (has_rising_keys x.1) (entries_have_rising_keys (entries_of xs)) h.keys in
    let texts = and_parts (has_good_texts x.1) (entries_have_good_texts (entries_of xs)) h.texts in
    let rest : AreFine (entries_of (xs ++ (k, v) ∷ [])) = row_added xs k v (record { ranges = h.ranges.2; keys = keys.1; texts = texts.1 }) n g in
    record {
      ranges = (h.ranges.0, h.ranges.1, rest.ranges);
      keys = and_from (has_rising_keys x.1) (entries_have_rising_keys (entries_of (xs ++ (k, v) ∷ []))) keys.0 rest.keys;
      texts = and_from (has_good_texts x.1) (entries_have_good_texts (entries_of (xs ++ (k, v) ∷ []))) texts.0 rest.texts;
    }

pub row_fine : (xs : List (List ℕ × Tree)) (k : List ℕ) (v : Tree) (zs : List (List ℕ × Tree)) → zs ≡ xs ++ (k, v) ∷ [] → AreFine (entries_of xs) → IsName k → IsVal v → AreFine (entries_of zs)
row_fine xs k v zs e h n g = subst (λ l. AreFine (entries_of l)) (sym e) (row_added xs k v h n g)

pub row_size : (xs : List (List ℕ × Tree)) (k : List ℕ) (v : Tree) (zs : List (List ℕ × Tree)) → zs ≡ xs ++ (k, v) ∷ [] → entries_size (entries_of zs) ≡ entries_size (entries_of xs) + (1 + length k + size_of v)
row_size xs k v zs e = let m : entries_size (entries_of zs) ≡ entries_size (entries_of xs) + entries_size (entries_of ((k, v) ∷ [])) = ap (λ l. entries_size (entries_of l)) e ∙ both_sizes xs ((k, v) ∷ []) in omega (arith, m)

pub row_depth : (xs : List (List ℕ × Tree)) (k : List ℕ) (v : Tree) (zs : List (List ℕ × Tree)) → zs ≡ xs ++ (k, v) ∷ [] → entries_depth (entries_of zs) ≡ max (depth_of v) (entries_depth (entries_of xs))
row_depth xs k v zs e = let m : entries_depth (entries_of zs) ≡ max (entries_depth (entries_of xs)) (entries_depth (entries_of ((k, v) ∷ []))) = ap (λ l. entries_depth (entries_of l)) e ∙ both_depths xs ((k, v) ∷ []) in omega (arith, m)

-- a tuple of which a first part is too large is too large
pub tuple_too_large : (xs ys zs : List (List ℕ × Tree)) → xs ++ ys ≡ zs → 1048576 < size_of (TupleV (entries_of xs)) → kept (Gives (TupleV (entries_of zs))) ≡ Undefined
tuple_too_large xs ys zs e h =
    let m : entries_size (entries_of zs) ≡ entries_size (entries_of xs) + entries_size (entries_of ys) = ap (λ l. entries_size (entries_of l)) (sym e) ∙ both_sizes xs ys in
    beyond (TupleV (entries_of zs)) (omega (arith, m, h))

pub all_fine : (es : Entries) → AreFine es → rises es ≡ true → IsFine (TupleV es)
all_fine es h r = record { ranges = h.ranges; keys = and_from (rises es) (entries_have_rising_keys es) r h.keys; texts = h.texts }
