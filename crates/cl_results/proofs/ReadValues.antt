-- The value of a text is within the limits.
use Rattle.std.proofs.Common.{◌≡◌, ℕ, ◌≤◌, Bool, true, false, List, [], ◌∷◌, length, Option, Some, None, Result, Ok, Err, refl, sym, subst}
use Rattle.std.specs.Prelude.{IfOk, nat_lt, if◌then◌else◌}
use Rattle.std.specs.Option.{ok_or}
use Rattle.std.specs.Ordering.{nat_cmp, match_ordering}
use Rattle.std.specs.declared.cmp.Ordering.{Ordering}
use Rattle.std.specs.declared.cmp.Ordering.TheVariants.{Less, Equal, Greater}
use Rattle.std.specs.Cmp.Lexicographic.{slice_cmp}
use Rattle.std.specs.BTreeMap.{insert_entry}
use Rattle.std.proofs.lemmas.Bool.{ltb-false, and_parts}
use Rattle.cl_types.specs.Name.{IsName}
use Rattle.cl_c32.specs.declared.principal.Principal.{Principal}
use Rattle.cl_sexpr.specs.declared.sexpr.Span.{Span}
use Rattle.cl_sexpr.specs.Fits.{ContractFits, PrincipalFits, LeafFits, Fits, AllFit, PairsFit}
use Rattle.cl_sexpr.specs.Text.{Reads}
use Rattle.cl_sexpr.specs.Tree.{Leaf, Named, Signed, Unsigned, Bytes, Ascii, Unicode, Standing, Local, Tree as Item, LeafAt, ListAt, TupleAt, Forest, Empty, Then, Pairs, NoPair, Pair, span_of}
use Rattle.cl_values.specs.Tree.{Tree, ListV, TupleV, SomeV, ResponseV, items_of, entries_of, depth_of}
use Rattle.cl_values.specs.Valid.{IsVal, IsContractPart, IsPrincipal, InRange, ItemsInRange, EntriesInRange}
use Rattle.cl_values.specs.Wire.{size_of}
use Rattle.cl_text.specs.declared.word.Word.{Word}
use Rattle.cl_text.specs.declared.word.Word.TheVariants as word
use Rattle.cl_text.specs.Literal.{word_of, word_value, leaf_value, name_of, word_in, are_tuple_keys, pair_keys, keys_of, are_pairs, by_key, made_of, in_front, only, tuple_of, by_word, keyed, literal, list_literal, sole, literals, pair_entries, pair_entry, entry_in, entries}
use Rattle.cl_text.specs.Parsed.{Stands, TooDeep, TooLarge, within_limits, value_outcome, items_outcome, Parses, breaks, reads}
use Rattle.cl_text.specs.Spelled.{is_spelled, are_spelled}
use Rattle.cl_text.proofs.Parts.{sorted_onto}
use Rattle.cl_text.proofs.Sound.{value_good}
use Rattle.cl_text.proofs.Spelling.{spelled}

-- ---- leaves

pub principal_in : (p : Principal) → PrincipalFits p → IsPrincipal p
principal_in p h = (h.0, by p.contract h.1)
  where
    by : (o : Option (List ℕ)) → ContractFits o → IsContractPart o
    by None g = tt
    by (Some name) g = g

word_in_range : (w : Word) (span : Span) → IfOk (ok_or (word_value w) span) InRange
word_in_range word.True span = tt
word_in_range word.False span = tt
word_in_range word.None span = tt
word_in_range word.Some span = tt
word_in_range word.Ok span = tt
word_in_range word.Err span = tt
word_in_range word.List span = tt
word_in_range word.Tuple span = tt
word_in_range word.Other span = tt

leaf_in_range : (leaf : Leaf) (span : Span) → LeafFits leaf → IfOk (ok_or (leaf_value leaf) span) InRange
leaf_in_range (Named name) span h = word_in_range (word_of name) span
leaf_in_range (Signed z) span h = h
leaf_in_range (Unsigned n) span h = h
leaf_in_range (Bytes bytes) span h = h
leaf_in_range (Ascii bytes) span h = h.0
leaf_in_range (Unicode characters) span h = h
leaf_in_range (Standing p) span h = principal_in p h
leaf_in_range (Local name) span h = tt

-- ---- parts

abbrev AllInRange : List Tree → Type 0
AllInRange vs = ItemsInRange (items_of vs)

abbrev EntryInRange : List ℕ × Tree → Type 0
EntryInRange e = IsName e.0 × InRange e.1

abbrev HaveInRange : List (List ℕ × Tree) → Type 0
HaveInRange es = EntriesInRange (entries_of es)

made_has : {A B : Type 0} (P : A → Type 0) (Q : B → Type 0) (make : A → B) (r : Result A Span) → ((a : A) → P a → Q (make a)) → IfOk r P → IfOk (made_of make r) Q
made_has P Q make (Ok part) so h = so part h
made_has P Q make (Err span) so h = tt

in_front_has : {A : Type 0} (P : A → Type 0) (Q : List A → Type 0) (r : Result A Span) (rs : Result (List A) Span) → ((a : A) (others : List A) → P a → Q others → Q (a ∷ others)) → IfOk r P → IfOk rs Q → IfOk (in_front r rs) Q
in_front_has P Q (Ok part) (Ok others) so h g = so part others h g
in_front_has P Q (Ok part) (Err span) so h g = tt
in_front_has P Q (Err span) rs so h g = tt

insert_in_range : (m : List (List ℕ × Tree)) (k : List ℕ) (v : Tree) → HaveInRange m → IsName k → InRange v → HaveInRange (insert_entry (slice_cmp nat_cmp) m k v)
insert_in_range [] k v h n g = (n, g, tt)
insert_in_range (e ∷ es) k v h n g = by (slice_cmp nat_cmp k e.0) (insert_in_range es k v h.2 n g)
  where
    by : (o : Ordering) → HaveInRange (insert_entry (slice_cmp nat_cmp) es k v) → HaveInRange (match_ordering o ((k, v) ∷ e ∷ es) ((e.0, v) ∷ es) (e ∷ insert_entry (slice_cmp nat_cmp) es k v))
    by Less others = (n, g, h)
    by Equal others = (h.0, g, h.2)
    by Greater others = (h.0, h.1, others)

sorted_in_range : (es m : List (List ℕ × Tree)) → HaveInRange m → HaveInRange es → HaveInRange (sorted_onto m es)
sorted_in_range [] m h g = h
sorted_in_range (e ∷ es) m h g = sorted_in_range es (insert_entry (slice_cmp nat_cmp) m e.0 e.1) (insert_in_range m e.0 e.1 h g.0 g.1) g.2

tuple_in_range : (span : Span) (test : Bool) (r : Result (List (List ℕ × Tree)) Span) → IfOk r HaveInRange → IfOk (tuple_of span test r) InRange
tuple_in_range span false r h = tt
tuple_in_range span true r h = made_has HaveInRange InRange (λ es. TupleV (entries_of (by_key es))) r (λ es g. sorted_in_range es [] tt g) h

by_word_in_range : (span : Span) (w : Word) (one : Result Tree Span) (all : Result (List Tree) Span) (tuple : Result Tree Span) → IfOk one InRange → IfOk all AllInRange → IfOk tuple InRange → IfOk (by_word span w one all tuple) InRange
by_word_in_range span word.True one all tuple a b c = tt
by_word_in_range span word.False one all tuple a b c = tt
by_word_in_range span word.None one all tuple a b c = tt
by_word_in_range span word.Some one all tuple a b c = made_has InRange InRange SomeV one (λ v h. h) a
by_word_in_range span word.Ok one all tuple a b c = made_has InRange InRange (ResponseV true) one (λ v h. h) a
by_word_in_range span word.Err one all tuple a b c = made_has InRange InRange (ResponseV false) one (λ v h. h) a
by_word_in_range span word.List one all tuple a b c = made_has AllInRange InRange (λ vs. ListV (items_of vs)) all (λ vs h. h) b
by_word_in_range span word.Tuple one all tuple a b c = c
by_word_in_range span word.Other one all tuple a b c = tt

only_in_range : (span : Span) (others : Forest) (r : Result Tree Span) → IfOk r InRange → IfOk (only span others r) InRange
only_in_range span Empty r h = h
only_in_range span (Then item others) r h = tt

with_key : (k : List ℕ) (r : Result Tree Span) → IsName k → IfOk r InRange → IfOk (made_of (λ v. (k, v)) r) EntryInRange
with_key k r n h = made_has InRange EntryInRange (λ v. (k, v)) r (λ v g. (n, g)) h

entry_of_key : (span : Span) (key : Item) (r : Result Tree Span) → Fits key → IfOk r InRange → IfOk (keyed span (name_of key) r) EntryInRange
entry_of_key span (LeafAt (Named name) at) r n h = with_key name r n h
entry_of_key span (LeafAt (Signed z) at) r n h = tt
entry_of_key span (LeafAt (Unsigned m) at) r n h = tt
entry_of_key span (LeafAt (Bytes bytes) at) r n h = tt
entry_of_key span (LeafAt (Ascii bytes) at) r n h = tt
entry_of_key span (LeafAt (Unicode characters) at) r n h = tt
entry_of_key span (LeafAt (Standing p) at) r n h = tt
entry_of_key span (LeafAt (Local name) at) r n h = tt
entry_of_key span (ListAt items at) r n h = tt
entry_of_key span (TupleAt pairs at) r n h = tt

-- ---- items

more_values : (v : Tree) (vs : List Tree) → InRange v → AllInRange vs → AllInRange (v ∷ vs)
more_values v vs a b = (a, b)

more_entries : (e : List ℕ × Tree) (es : List (List ℕ × Tree)) → EntryInRange e → HaveInRange es → HaveInRange (e ∷ es)
more_entries e es a b = (a.0, a.1, b)

mutual
  literal_in_range : (t : Item) → Fits t → IfOk (literal t) InRange
  literal_in_range (LeafAt leaf span) h = leaf_in_range leaf span h
  literal_in_range (ListAt items span) h = list_in_range span items h
  literal_in_range (TupleAt pairs span) h = tuple_in_range span (are_tuple_keys (keys_of pairs)) (entries pairs) (entries_in_range pairs h.1)

  list_in_range : (span : Span) (f : Forest) → AllFit f → IfOk (list_literal span f) InRange
  list_in_range span Empty h = tt
  list_in_range span (Then head f) h =
      by_word_in_range span (word_in (name_of head)) (sole span f) (literals f) (tuple_of span (are_pairs (pair_keys f)) (pair_entries f))
      (sole_in_range span f h.1) (all_in_range f h.1) (tuple_in_range span (are_pairs (pair_keys f)) (pair_entries f) (pairs_in_range f h.1))

  sole_in_range : (span : Span) (f : Forest) → AllFit f → IfOk (sole span f) InRange
  sole_in_range span Empty h = tt
  sole_in_range span (Then t f) h = only_in_range span f (literal t) (literal_in_range t h.0)

  all_in_range : (f : Forest) → AllFit f → IfOk (literals f) AllInRange
  all_in_range Empty h = tt
  all_in_range (Then t f) h = in_front_has InRange AllInRange (literal t) (literals f) more_values (literal_in_range t h.0) (all_in_range f h.1)

  pairs_in_range : (f : Forest) → AllFit f → IfOk (pair_entries f) HaveInRange
  pairs_in_range Empty h = tt
  pairs_in_range (Then t f) h = in_front_has EntryInRange HaveInRange (pair_entry t) (pair_entries f) more_entries (pair_in_range t h.0) (pairs_in_range f h.1)

  pair_in_range : (t : Item) → Fits t → IfOk (pair_entry t) EntryInRange
  pair_in_range (LeafAt leaf span) h = tt
  pair_in_range (ListAt items span) h = entry_in_range span items h
  pair_in_range (TupleAt pairs span) h = tt

  entry_in_range : (span : Span) (f : Forest) → AllFit f → IfOk (entry_in span f) EntryInRange
  entry_in_range span Empty h = tt
  entry_in_range span (Then key f) h = entry_of_key span key (sole span f) h.0 (sole_in_range span f h.1)

  entries_in_range : (ps : Pairs) → PairsFit ps → IfOk (entries ps) HaveInRange
  entries_in_range NoPair h = tt
  entries_in_range (Pair k t ps) h =
      in_front_has EntryInRange HaveInRange (made_of (λ v. (k, v)) (literal t)) (entries ps) more_entries
      (with_key k (literal t) h.0 (literal_in_range t h.1)) (entries_in_range ps h.2)

-- ---- texts

-- a value that passes no limit
record Limited (v w : Tree) : Type 0 where
  same : v ≡ w
  depth : depth_of w ≤ 32
  size : size_of w ≤ 1048576

limited : (span : Span) (v w : Tree) → Stands v ≡ within_limits span w → Limited v w
limited span v w e = by (nat_lt 32 (depth_of w)) (nat_lt 1048576 (size_of w)) refl refl e
  where
    by : (a b : Bool) → nat_lt 32 (depth_of w) ≡ a → nat_lt 1048576 (size_of w) ≡ b → Stands v ≡ (if a then TooDeep span else (if b then TooLarge span else Stands w)) → Limited v w
    by true b p q e = absurd cc
    by false true p q e = absurd cc
    by false false p q e = record { same = cc; depth = ltb-false 32 (depth_of w) p; size = ltb-false 1048576 (size_of w) q }

value_is : (item : Item) (v w : Tree) → Fits item → is_spelled item ≡ true → literal item ≡ Ok w → Limited v w → IsVal v
value_is item v w fits good is within =
    let sound = value_good item w good is in
    let range : InRange w = subst (λ (r : Result Tree Span). IfOk r InRange) is (literal_in_range item fits) in
    let whole : IsVal w = record { ranges = range; keys = sound.keys; texts = sound.texts; depth = within.depth; size = within.size } in
    subst IsVal (sym within.same) whole

item_is : (item : Item) (v : Tree) (r : Result Tree Span) → Fits item → is_spelled item ≡ true → literal item ≡ r → Stands v ≡ value_outcome (span_of item) r → IsVal v
item_is item v (Ok w) fits good is e = value_is item v w fits good is (limited (span_of item) v w e)
item_is item v (Err part) fits good is e = absurd cc

items_are : (size : ℕ) (v : Tree) (items : Forest) → AllFit items → are_spelled items ≡ true → Stands v ≡ items_outcome size items → IsVal v
items_are size v Empty fits good e = absurd cc
items_are size v (Then item Empty) fits good e = item_is item v (literal item) fits.0 (and_parts (is_spelled item) true good).0 refl e
items_are size v (Then item (Then other others)) fits good e = absurd cc

-- with the law that the items of a text that reads are within the limits
pub text_is : ((text : List ℕ) (items : Forest) → Reads text items → AllFit items) → (text : List ℕ) (v : Tree) → Parses text (Stands v) → IsVal v
text_is fit text v (breaks b h e) = absurd cc
text_is fit text v (reads items r e) = items_are (length text) v items (fit text items r) (spelled text items r) e
