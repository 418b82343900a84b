-- An entry of a sequence, or a part of a tuple, is within the limits by itself and as an optional.
use Rattle.std.proofs.Common.{◌≡◌, ℕ, zero, suc, ◌≤◌, ◌||◌, nat_le, is_some, Bool, true, false, List, [], ◌∷◌, length, Option, Some, option_map, slice_get, encode_utf8, length-append, ap, sym, ◌∙◌, refl, arith, if◌then◌else◌}
use Rattle.std.specs.Str.{bytes_eq}
use Rattle.std.proofs.lemmas.Bool.Decides.{nat_tests}
use Rattle.std.proofs.lemmas.Str.{length-encode, len_utf8_bounds}
use Rattle.std.proofs.lemmas.Iterator.Adapters.{option_map_id}
use Rattle.cl_values.specs.Tree.{Tree, UintV, BuffV, AsciiV, Utf8V, ListV, TupleV, SomeV, Items, NoItem, Item, Entries, NoEntry, Entry, depth_of, items_depth, entries_depth}
use Rattle.cl_values.specs.Wire.{size_of, items_size, entries_size}
use Rattle.cl_values.specs.Computed.{Gives, is_defined, kept}
use Rattle.cl_values.specs.Sequences.{entries_of, values_of, singles, optional, element_at}
use Rattle.cl_values.specs.Tuples.{value_at, is_among, known, part_at}
use Rattle.cl_apply.proofs.DefinedLaws.{both_by, gives_is}

small_is : (w : Tree) → depth_of w ≤ 32 → size_of w ≤ 1048576 → is_defined (kept (Gives w)) ≡ true
small_is w d s =
    let shallow : nat_le (depth_of w) 32 ≡ true = grind (arith, nat_tests, d) in
    let short : nat_le (size_of w) 1048576 ≡ true = grind (arith, nat_tests, s) in
    gives_is w ∙ both_by (nat_le (depth_of w) 32) (nat_le (size_of w) 1048576) shallow ∙ short

-- ---- entries of sequences

item_is : (vs : Items) (at : ℕ) → items_depth vs ≤ 31 → items_size vs ≤ 1048571 → is_defined (kept (Gives (optional (slice_get (values_of vs) at)))) ≡ true
item_is NoItem at d s = refl
item_is (Item v vs) zero d s = small_is (SomeV v) (omega (arith, d)) (omega (arith, s))
item_is (Item v vs) (suc at) d s = item_is vs at (omega (arith, d)) (omega (arith, s))

single_is : (make : List ℕ → Tree) → ((x : ℕ) → is_defined (kept (Gives (SomeV (make (x ∷ []))))) ≡ true)
    → (xs : List ℕ) (at : ℕ) → is_defined (kept (Gives (optional (slice_get (singles make xs) at)))) ≡ true
single_is make small [] at = refl
single_is make small (x ∷ xs) zero = small x
single_is make small (x ∷ xs) (suc at) = single_is make small xs at

character_is : (x : ℕ) → is_defined (kept (Gives (SomeV (Utf8V (x ∷ []))))) ≡ true
character_is x = small_is (SomeV (Utf8V (x ∷ []))) (omega arith) (omega (arith, length-append (encode_utf8 x) [], length-encode x, (len_utf8_bounds x).1))

pub entry_is : (v : Tree) (at : ℕ) (count : Option ℕ) → depth_of v ≤ 32 → size_of v ≤ 1048576 → count ≡ option_map length (entries_of v)
    → is_some count ≡ is_defined (kept (element_at (v ∷ UintV at ∷ [])))
entry_is (ListV vs) at count d s e = ap is_some e ∙ sym (item_is vs at (omega (arith, d)) (omega (arith, s)))
entry_is (BuffV xs) at count d s e = ap is_some e ∙ sym (single_is BuffV (λ x. refl) xs at)
entry_is (AsciiV xs) at count d s e = ap is_some e ∙ sym (single_is AsciiV (λ x. refl) xs at)
entry_is (Utf8V xs) at count d s e = ap is_some e ∙ sym (single_is Utf8V character_is xs at)
entry_is v at count d s e = ap is_some e

-- ---- parts of tuples

keyed_is : (wrap : Tree → Tree) → ((v : Tree) → depth_of v ≤ 31 → size_of v ≤ 1048570 → is_defined (kept (Gives (wrap v))) ≡ true)
    → (key : List ℕ) (es : Entries) → entries_depth es ≤ 31 → entries_size es ≤ 1048571
    → is_among key es ≡ is_defined (kept (known (option_map wrap (value_at key es))))
keyed_is wrap small key NoEntry d s = refl
keyed_is wrap small key (Entry k v es) d s =
    by (bytes_eq key k) (small v (omega (arith, d)) (omega (arith, s))) (keyed_is wrap small key es (omega (arith, d)) (omega (arith, s)))
  where
    by : (b : Bool) → is_defined (kept (Gives (wrap v))) ≡ true → is_among key es ≡ is_defined (kept (known (option_map wrap (value_at key es))))
        → (b || is_among key es) ≡ is_defined (kept (known (option_map wrap (if b then Some v else value_at key es))))
    by true here rest = sym here
    by false here rest = rest

pub part_is : (key : List ℕ) (es : Entries) → depth_of (TupleV es) ≤ 32 → size_of (TupleV es) ≤ 1048576
    → is_among key es ≡ is_defined (kept (part_at key (TupleV es)))
part_is key es d s =
    keyed_is (λ v. v) (λ v e t. small_is v (omega (arith, e)) (omega (arith, t))) key es (omega (arith, d)) (omega (arith, s))
    ∙ ap (λ o. is_defined (kept (known o))) (option_map_id (value_at key es))

pub some_part_is : (key : List ℕ) (es : Entries) → depth_of (SomeV (TupleV es)) ≤ 32 → size_of (SomeV (TupleV es)) ≤ 1048576
    → is_among key es ≡ is_defined (kept (part_at key (SomeV (TupleV es))))
some_part_is key es d s =
    keyed_is SomeV (λ v e t. small_is (SomeV v) (omega (arith, e)) (omega (arith, t))) key es (omega (arith, d)) (omega (arith, s))
