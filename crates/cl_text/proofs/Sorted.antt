-- Entries in the order of their keys.
use Rattle.std.proofs.Common.{◌≡◌, ℕ, ◌≤◌, ◌&&◌, Bool, true, false, refl, List, [], ◌∷◌, arith, ap, ◌∙◌}
use Rattle.std.specs.declared.cmp.Ordering.{Ordering}
use Rattle.std.specs.declared.cmp.Ordering.TheVariants.{Less, Equal, Greater}
use Rattle.std.specs.Ordering.{nat_cmp, is_lt, match_ordering, ordering_reverse}
use Rattle.std.specs.Cmp.Lexicographic.{slice_cmp, nat_list_cmp_total}
use Rattle.std.specs.BTreeMap.{insert_entry}
use Rattle.std.proofs.lemmas.Bool.{and_parts}
use Rattle.cl_values.specs.Tree.{Tree, Items, Item, Entries, NoEntry, Entry, entries_of, depth_of, items_depth, entries_depth}
use Rattle.cl_values.specs.Valid.{is_below, rises_from, rises, has_rising_keys, items_have_rising_keys, entries_have_rising_keys, has_good_texts, items_have_good_texts, entries_have_good_texts}
use Rattle.cl_text.specs.Literal.{by_key}
use Rattle.cl_text.proofs.Parts.{sorted_onto}

pub both_true : (a b : Bool) → a ≡ true → b ≡ true → (a && b) ≡ true
both_true true b p q = q
both_true false b p q = p

-- a value of at most this depth, with rising keys and good texts
pub record IsGood (n : ℕ) (v : Tree) : Type 0 where
  pub keys : has_rising_keys v ≡ true
  pub texts : has_good_texts v ≡ true
  pub depth : depth_of v ≤ n

-- the same of values in a row
pub record AreGood (n : ℕ) (vs : Items) : Type 0 where
  pub keys : items_have_rising_keys vs ≡ true
  pub texts : items_have_good_texts vs ≡ true
  pub depth : items_depth vs ≤ n

-- the same of the values of entries
pub record HaveGood (n : ℕ) (es : Entries) : Type 0 where
  pub keys : entries_have_rising_keys es ≡ true
  pub texts : entries_have_good_texts es ≡ true
  pub depth : entries_depth es ≤ n

pub good_items : (n : ℕ) (v : Tree) (vs : Items) → IsGood n v → AreGood n vs → AreGood n (Item v vs)
good_items n v vs a b = record {
  keys = both_true (has_rising_keys v) (items_have_rising_keys vs) a.keys b.keys;
  texts = both_true (has_good_texts v) (items_have_good_texts vs) a.texts b.texts;
  depth = omega (arith, a.depth, b.depth);
}

pub good_entries : (n : ℕ) (k : List ℕ) (v : Tree) (es : Entries) → IsGood n v → HaveGood n es → HaveGood n (Entry k v es)
good_entries n k v es a b = record {
  keys = both_true (has_rising_keys v) (entries_have_rising_keys es) a.keys b.keys;
  texts = both_true (has_good_texts v) (entries_have_good_texts es) a.texts b.texts;
  depth = omega (arith, a.depth, b.depth);
}

first_good : (n : ℕ) (k : List ℕ) (v : Tree) (es : Entries) → HaveGood n (Entry k v es) → IsGood n v
first_good n k v es h = record {
  keys = (and_parts (has_rising_keys v) (entries_have_rising_keys es) h.keys).0;
  texts = (and_parts (has_good_texts v) (entries_have_good_texts es) h.texts).0;
  depth = omega (arith, h.depth);
}

others_good : (n : ℕ) (k : List ℕ) (v : Tree) (es : Entries) → HaveGood n (Entry k v es) → HaveGood n es
others_good n k v es h = record {
  keys = (and_parts (has_rising_keys v) (entries_have_rising_keys es) h.keys).1;
  texts = (and_parts (has_good_texts v) (entries_have_good_texts es) h.texts).1;
  depth = omega (arith, h.depth);
}

insert_good : (n : ℕ) (m : List (List ℕ × Tree)) (k : List ℕ) (v : Tree) → HaveGood n (entries_of m) → IsGood n v → HaveGood n (entries_of (insert_entry (slice_cmp nat_cmp) m k v))
insert_good n [] k v h g = good_entries n k v NoEntry g h
insert_good n (e ∷ es) k v h g = go (slice_cmp nat_cmp k e.0) (insert_good n es k v (others_good n e.0 e.1 (entries_of es) h) g)
  where
    one : IsGood n e.1
    one = first_good n e.0 e.1 (entries_of es) h

    rest : HaveGood n (entries_of es)
    rest = others_good n e.0 e.1 (entries_of es) h

    go : (o : Ordering) → HaveGood n (entries_of (insert_entry (slice_cmp nat_cmp) es k v)) → HaveGood n (entries_of (match_ordering o ((k, v) ∷ e ∷ es) ((e.0, v) ∷ es) (e ∷ insert_entry (slice_cmp nat_cmp) es k v)))
    go Less others = good_entries n k v (entries_of (e ∷ es)) g h
    go Equal others = good_entries n e.0 v (entries_of es) g rest
    go Greater others = good_entries n e.0 e.1 (entries_of (insert_entry (slice_cmp nat_cmp) es k v)) one others

pub sorted_good : (n : ℕ) (es m : List (List ℕ × Tree)) → HaveGood n (entries_of m) → HaveGood n (entries_of es) → HaveGood n (entries_of (sorted_onto m es))
sorted_good n [] m h g = h
sorted_good n (e ∷ es) m h g =
    sorted_good n es (insert_entry (slice_cmp nat_cmp) m e.0 e.1) (insert_good n m e.0 e.1 h (first_good n e.0 e.1 (entries_of es) g)) (others_good n e.0 e.1 (entries_of es) g)

-- an entry at its place
below : (j k : List ℕ) → slice_cmp nat_cmp k j ≡ Greater → is_below j k ≡ true
below j k e = ap is_lt (nat_list_cmp_total.antisymm j k ∙ ap ordering_reverse e)

insert_from : (j : List ℕ) (m : List (List ℕ × Tree)) (k : List ℕ) (v : Tree) → rises_from j (entries_of m) ≡ true → is_below j k ≡ true → rises_from j (entries_of (insert_entry (slice_cmp nat_cmp) m k v)) ≡ true
insert_from j [] k v h above = both_true (is_below j k) true above refl
insert_from j (e ∷ es) k v h above =
    go (slice_cmp nat_cmp k e.0) refl (λ under. insert_from e.0 es k v (and_parts (is_below j e.0) (rises_from e.0 (entries_of es)) h).1 under)
  where
    parts : (is_below j e.0 ≡ true) × (rises_from e.0 (entries_of es) ≡ true)
    parts = and_parts (is_below j e.0) (rises_from e.0 (entries_of es)) h

    go : (o : Ordering) → slice_cmp nat_cmp k e.0 ≡ o → (is_below e.0 k ≡ true → rises_from e.0 (entries_of (insert_entry (slice_cmp nat_cmp) es k v)) ≡ true) → rises_from j (entries_of (match_ordering o ((k, v) ∷ e ∷ es) ((e.0, v) ∷ es) (e ∷ insert_entry (slice_cmp nat_cmp) es k v))) ≡ true
    go Less is others = both_true (is_below j k) (rises_from k (entries_of (e ∷ es))) above (both_true (is_below k e.0) (rises_from e.0 (entries_of es)) (ap is_lt is) parts.1)
    go Equal is others = h
    go Greater is others = both_true (is_below j e.0) (rises_from e.0 (entries_of (insert_entry (slice_cmp nat_cmp) es k v))) parts.0 (others (below e.0 k is))

insert_rises : (e : List ℕ × Tree) (es : List (List ℕ × Tree)) (k : List ℕ) (v : Tree) → rises (entries_of (e ∷ es)) ≡ true → rises (entries_of (insert_entry (slice_cmp nat_cmp) (e ∷ es) k v)) ≡ true
insert_rises e es k v h = go (slice_cmp nat_cmp k e.0) refl
  where
    go : (o : Ordering) → slice_cmp nat_cmp k e.0 ≡ o → rises (entries_of (match_ordering o ((k, v) ∷ e ∷ es) ((e.0, v) ∷ es) (e ∷ insert_entry (slice_cmp nat_cmp) es k v))) ≡ true
    go Less is = both_true (is_below k e.0) (rises_from e.0 (entries_of es)) (ap is_lt is) h
    go Equal is = h
    go Greater is = insert_from e.0 es k v h (below e.0 k is)

onto_rises : (es m : List (List ℕ × Tree)) → rises (entries_of m) ≡ true → rises (entries_of (sorted_onto m es)) ≡ true
onto_rises [] m h = h
onto_rises (e ∷ es) [] h = onto_rises es ((e.0, e.1) ∷ []) refl
onto_rises (e ∷ es) (f ∷ fs) h = onto_rises es (insert_entry (slice_cmp nat_cmp) (f ∷ fs) e.0 e.1) (insert_rises f fs e.0 e.1 h)

pub sorted_rises : (e : List ℕ × Tree) (es : List (List ℕ × Tree)) → rises (entries_of (by_key (e ∷ es))) ≡ true
sorted_rises e es = onto_rises es ((e.0, e.1) ∷ []) refl
