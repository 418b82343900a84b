-- The value of an item: its keys rise, its texts are good, and it is hardly deeper than the item.
use Rattle.std.proofs.Common.{◌≡◌, ℕ, ◌+◌, ◌≤◌, Bool, true, false, refl, List, [], ◌∷◌, arith, subst}
use Rattle.std.specs.Prelude.{Option, Some, None, Result, Ok, Err}
use Rattle.std.specs.Option.{ok_or}
use Rattle.std.proofs.lemmas.Bool.{and_parts}
use Rattle.cl_sexpr.specs.declared.sexpr.Span.{Span}
use Rattle.cl_sexpr.specs.Tree.{Leaf, Named, Signed, Unsigned, Bytes, Ascii, Unicode, Standing, Local, Tree as Item, LeafAt, ListAt, TupleAt, Forest, Empty, Then, Pairs, NoPair, Pair, tree_depth, forest_depth, pairs_depth}
use Rattle.cl_values.specs.Tree.{Tree, ListV, SomeV, ResponseV, NoEntry, items_of, entries_of}
use Rattle.cl_values.specs.Valid.{rises, entries_have_rising_keys}
use Rattle.cl_text.specs.declared.word.Word.{Word}
use Rattle.cl_text.specs.declared.word.Word.TheVariants as word
use Rattle.cl_text.specs.Literal.{word_of, word_value, leaf_value, name_of, word_in, are_tuple_keys, pair_keys, keys_of, are_pairs, by_key, made_of, in_front, only, tuple_of, by_word, keyed, literal, list_literal, sole, literals, pair_entries, pair_entry, entry_in, entries}
use Rattle.cl_text.specs.Spelled.{is_spelled_leaf, is_spelled, are_spelled, have_spelled}
use Rattle.cl_text.proofs.Sorted.{both_true, IsGood, AreGood, HaveGood, good_items, good_entries, sorted_good, sorted_rises}

-- what holds of the value, where there is one
abbrev Sound : ℕ → Result Tree Span → Type 0
Sound n (Ok v) = IsGood n v
Sound n (Err span) = Unit {0}

abbrev AllSound : ℕ → Result (List Tree) Span → Type 0
AllSound n (Ok vs) = AreGood n (items_of vs)
AllSound n (Err span) = Unit {0}

abbrev EntrySound : ℕ → Result (List ℕ × Tree) Span → Type 0
EntrySound n (Ok e) = IsGood n e.1
EntrySound n (Err span) = Unit {0}

abbrev EntriesSound : ℕ → Result (List (List ℕ × Tree)) Span → Type 0
EntriesSound n (Ok es) = HaveGood n (entries_of es)
EntriesSound n (Err span) = Unit {0}

-- at a greater depth
higher : (m n : ℕ) (r : Result Tree Span) → m ≤ n → Sound m r → Sound n r
higher m n (Ok v) h s = record { keys = s.keys; texts = s.texts; depth = omega (arith, h, s.depth) }
higher m n (Err span) h s = tt

all_higher : (m n : ℕ) (r : Result (List Tree) Span) → m ≤ n → AllSound m r → AllSound n r
all_higher m n (Ok vs) h s = record { keys = s.keys; texts = s.texts; depth = omega (arith, h, s.depth) }
all_higher m n (Err span) h s = tt

entry_higher : (m n : ℕ) (r : Result (List ℕ × Tree) Span) → m ≤ n → EntrySound m r → EntrySound n r
entry_higher m n (Ok e) h s = record { keys = s.keys; texts = s.texts; depth = omega (arith, h, s.depth) }
entry_higher m n (Err span) h s = tt

entries_higher : (m n : ℕ) (r : Result (List (List ℕ × Tree)) Span) → m ≤ n → EntriesSound m r → EntriesSound n r
entries_higher m n (Ok es) h s = record { keys = s.keys; texts = s.texts; depth = omega (arith, h, s.depth) }
entries_higher m n (Err span) h s = tt

in_front_sound : (n : ℕ) (r : Result Tree Span) (rs : Result (List Tree) Span) → Sound n r → AllSound n rs → AllSound n (in_front r rs)
in_front_sound n (Ok v) (Ok vs) a b = good_items n v (items_of vs) a b
in_front_sound n (Ok v) (Err span) a b = tt
in_front_sound n (Err span) rs a b = tt

entry_in_front : (n : ℕ) (r : Result (List ℕ × Tree) Span) (rs : Result (List (List ℕ × Tree)) Span) → EntrySound n r → EntriesSound n rs → EntriesSound n (in_front r rs)
entry_in_front n (Ok e) (Ok es) a b = good_entries n e.0 e.1 (entries_of es) a b
entry_in_front n (Ok e) (Err span) a b = tt
entry_in_front n (Err span) rs a b = tt

with_key_sound : (n : ℕ) (k : List ℕ) (r : Result Tree Span) → Sound n r → EntrySound n (made_of (λ v. (k, v)) r)
with_key_sound n k (Ok v) s = s
with_key_sound n k (Err span) s = tt

keyed_sound : (n : ℕ) (span : Span) (k : Option (List ℕ)) (r : Result Tree Span) → Sound n r → EntrySound n (keyed span k r)
keyed_sound n span None r s = tt
keyed_sound n span (Some k) r s = with_key_sound n k r s

only_sound : (n : ℕ) (span : Span) (f : Forest) (r : Result Tree Span) → Sound n r → Sound n (only span f r)
only_sound n span Empty r s = s
only_sound n span (Then t f) r s = tt

some_sound : (n : ℕ) (r : Result Tree Span) → Sound n r → Sound (n + 1) (made_of SomeV r)
some_sound n (Ok v) s = record { keys = s.keys; texts = s.texts; depth = omega (arith, s.depth) }
some_sound n (Err span) s = tt

response_sound : (n : ℕ) (good : Bool) (r : Result Tree Span) → Sound n r → Sound (n + 1) (made_of (ResponseV good) r)
response_sound n good (Ok v) s = record { keys = s.keys; texts = s.texts; depth = omega (arith, s.depth) }
response_sound n good (Err span) s = tt

list_made : (n : ℕ) (r : Result (List Tree) Span) → AllSound n r → Sound (n + 1) (made_of (λ vs. ListV (items_of vs)) r)
list_made n (Ok vs) s = record { keys = s.keys; texts = s.texts; depth = omega (arith, s.depth) }
list_made n (Err span) s = tt

no_entry : (n : ℕ) → HaveGood n NoEntry
no_entry n = record { keys = refl; texts = refl; depth = omega arith }

-- a tuple of one entry at least
tuple_made : (n : ℕ) (span : Span) (test : Bool) (r : Result (List ℕ × Tree) Span) (rs : Result (List (List ℕ × Tree)) Span) → EntriesSound n (in_front r rs) → Sound (n + 1) (tuple_of span test (in_front r rs))
tuple_made n span false r rs s = tt
tuple_made n span true (Ok e) (Ok es) s =
    let all = sorted_good n (e ∷ es) [] (no_entry n) s in
    record {
      keys = both_true (rises (entries_of (by_key (e ∷ es)))) (entries_have_rising_keys (entries_of (by_key (e ∷ es)))) (sorted_rises e es) all.keys;
      texts = all.texts;
      depth = omega (arith, all.depth);
    }
tuple_made n span true (Ok e) (Err part) s = tt
tuple_made n span true (Err part) rs s = tt

word_sound : (n : ℕ) (span : Span) (w : Word) (one : Result Tree Span) (all : Result (List Tree) Span) (tuple : Result Tree Span) → Sound n one → AllSound n all → Sound (n + 1) tuple → Sound (n + 1) (by_word span w one all tuple)
word_sound n span word.True one all tuple a b c = tt
word_sound n span word.False one all tuple a b c = tt
word_sound n span word.None one all tuple a b c = tt
word_sound n span word.Some one all tuple a b c = some_sound n one a
word_sound n span word.Ok one all tuple a b c = response_sound n true one a
word_sound n span word.Err one all tuple a b c = response_sound n false one a
word_sound n span word.List one all tuple a b c = list_made n all b
word_sound n span word.Tuple one all tuple a b c = c
word_sound n span word.Other one all tuple a b c = tt

leaf_sound : (leaf : Leaf) (span : Span) → is_spelled_leaf leaf ≡ true → Sound 1 (ok_or (leaf_value leaf) span)
leaf_sound (Named name) span h = named (word_of name)
  where
    named : (w : Word) → Sound 1 (ok_or (word_value w) span)
    named word.True = record { keys = refl; texts = refl; depth = omega arith }
    named word.False = record { keys = refl; texts = refl; depth = omega arith }
    named word.None = record { keys = refl; texts = refl; depth = omega arith }
    named word.Some = tt
    named word.Ok = tt
    named word.Err = tt
    named word.List = tt
    named word.Tuple = tt
    named word.Other = tt
leaf_sound (Signed z) span h = record { keys = refl; texts = refl; depth = omega arith }
leaf_sound (Unsigned n) span h = record { keys = refl; texts = refl; depth = omega arith }
leaf_sound (Bytes bytes) span h = record { keys = refl; texts = refl; depth = omega arith }
leaf_sound (Ascii bytes) span h = record { keys = refl; texts = h; depth = omega arith }
leaf_sound (Unicode characters) span h = record { keys = refl; texts = refl; depth = omega arith }
leaf_sound (Standing p) span h = record { keys = refl; texts = refl; depth = omega arith }
leaf_sound (Local name) span h = tt

mutual
  pub literal_sound : (t : Item) → is_spelled t ≡ true → Sound (tree_depth t + 1) (literal t)
  literal_sound (LeafAt leaf span) h = leaf_sound leaf span h
  literal_sound (ListAt f span) h = list_sound span f h
  literal_sound (TupleAt NoPair span) h = tt
  literal_sound (TupleAt (Pair k t ps) span) h =
      let parts = and_parts (is_spelled t) (have_spelled ps) h in
      tuple_made (pairs_depth (Pair k t ps) + 1) span (are_tuple_keys (keys_of (Pair k t ps))) (made_of (λ v. (k, v)) (literal t)) (entries ps)
      (entry_in_front (pairs_depth (Pair k t ps) + 1) (made_of (λ v. (k, v)) (literal t)) (entries ps)
      (with_key_sound (pairs_depth (Pair k t ps) + 1) k (literal t) (higher (tree_depth t + 1) (pairs_depth (Pair k t ps) + 1) (literal t) (omega arith) (literal_sound t parts.0)))
      (entries_higher (pairs_depth ps + 1) (pairs_depth (Pair k t ps) + 1) (entries ps) (omega arith) (entries_sound ps parts.1)))

  list_sound : (span : Span) (f : Forest) → are_spelled f ≡ true → Sound (forest_depth f + 1 + 1) (list_literal span f)
  list_sound span Empty h = tt
  list_sound span (Then head f) h =
      let parts = and_parts (is_spelled head) (are_spelled f) h in
      higher (forest_depth f + 1 + 1) (forest_depth (Then head f) + 1 + 1) (list_literal span (Then head f)) (omega arith)
      (word_sound (forest_depth f + 1) span (word_in (name_of head)) (sole span f) (literals f) (tuple_of span (are_pairs (pair_keys f)) (pair_entries f))
      (sole_sound span f parts.1) (all_sound f parts.1) (pairs_tuple span f parts.1))

  sole_sound : (span : Span) (f : Forest) → are_spelled f ≡ true → Sound (forest_depth f + 1) (sole span f)
  sole_sound span Empty h = tt
  sole_sound span (Then t f) h =
      let parts = and_parts (is_spelled t) (are_spelled f) h in
      only_sound (forest_depth (Then t f) + 1) span f (literal t) (higher (tree_depth t + 1) (forest_depth (Then t f) + 1) (literal t) (omega arith) (literal_sound t parts.0))

  all_sound : (f : Forest) → are_spelled f ≡ true → AllSound (forest_depth f + 1) (literals f)
  all_sound Empty h = record { keys = refl; texts = refl; depth = omega arith }
  all_sound (Then t f) h =
      let parts = and_parts (is_spelled t) (are_spelled f) h in
      in_front_sound (forest_depth (Then t f) + 1) (literal t) (literals f)
      (higher (tree_depth t + 1) (forest_depth (Then t f) + 1) (literal t) (omega arith) (literal_sound t parts.0))
      (all_higher (forest_depth f + 1) (forest_depth (Then t f) + 1) (literals f) (omega arith) (all_sound f parts.1))

  pairs_tuple : (span : Span) (f : Forest) → are_spelled f ≡ true → Sound (forest_depth f + 1 + 1) (tuple_of span (are_pairs (pair_keys f)) (pair_entries f))
  pairs_tuple span Empty h = tt
  pairs_tuple span (Then t f) h =
      let parts = and_parts (is_spelled t) (are_spelled f) h in
      tuple_made (forest_depth (Then t f) + 1) span (are_pairs (pair_keys (Then t f))) (pair_entry t) (pair_entries f)
      (entry_in_front (forest_depth (Then t f) + 1) (pair_entry t) (pair_entries f)
      (entry_higher (tree_depth t + 1) (forest_depth (Then t f) + 1) (pair_entry t) (omega arith) (pair_sound t parts.0))
      (entries_higher (forest_depth f + 1) (forest_depth (Then t f) + 1) (pair_entries f) (omega arith) (pairs_sound f parts.1)))

  pairs_sound : (f : Forest) → are_spelled f ≡ true → EntriesSound (forest_depth f + 1) (pair_entries f)
  pairs_sound Empty h = no_entry 1
  pairs_sound (Then t f) h =
      let parts = and_parts (is_spelled t) (are_spelled f) h in
      entry_in_front (forest_depth (Then t f) + 1) (pair_entry t) (pair_entries f)
      (entry_higher (tree_depth t + 1) (forest_depth (Then t f) + 1) (pair_entry t) (omega arith) (pair_sound t parts.0))
      (entries_higher (forest_depth f + 1) (forest_depth (Then t f) + 1) (pair_entries f) (omega arith) (pairs_sound f parts.1))

  pair_sound : (t : Item) → is_spelled t ≡ true → EntrySound (tree_depth t + 1) (pair_entry t)
  pair_sound (LeafAt leaf span) h = tt
  pair_sound (ListAt f span) h = entry_higher (forest_depth f + 1) (tree_depth (ListAt f span) + 1) (entry_in span f) (omega arith) (entry_sound span f h)
  pair_sound (TupleAt ps span) h = tt

  entry_sound : (span : Span) (f : Forest) → are_spelled f ≡ true → EntrySound (forest_depth f + 1) (entry_in span f)
  entry_sound span Empty h = tt
  entry_sound span (Then key f) h =
      let parts = and_parts (is_spelled key) (are_spelled f) h in
      keyed_sound (forest_depth (Then key f) + 1) span (name_of key) (sole span f)
      (higher (forest_depth f + 1) (forest_depth (Then key f) + 1) (sole span f) (omega arith) (sole_sound span f parts.1))

  entries_sound : (ps : Pairs) → have_spelled ps ≡ true → EntriesSound (pairs_depth ps + 1) (entries ps)
  entries_sound NoPair h = no_entry 1
  entries_sound (Pair k t ps) h =
      let parts = and_parts (is_spelled t) (have_spelled ps) h in
      entry_in_front (pairs_depth (Pair k t ps) + 1) (made_of (λ v. (k, v)) (literal t)) (entries ps)
      (with_key_sound (pairs_depth (Pair k t ps) + 1) k (literal t) (higher (tree_depth t + 1) (pairs_depth (Pair k t ps) + 1) (literal t) (omega arith) (literal_sound t parts.0)))
      (entries_higher (pairs_depth ps + 1) (pairs_depth (Pair k t ps) + 1) (entries ps) (omega arith) (entries_sound ps parts.1))

pub value_good : (t : Item) (v : Tree) → is_spelled t ≡ true → literal t ≡ Ok v → IsGood (tree_depth t + 1) v
value_good t v h e = let P : Result Tree Span → Type 0 = λ r. Sound (tree_depth t + 1) r in subst P e (literal_sound t h)
