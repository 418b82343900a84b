-- Lists, buffers and strings, and their entries.
use Rattle.std.proofs.Common.{◌≡◌, ℕ, suc, ◌<◌, ◌≤◌, true, nat_le, List, [], ◌∷◌, ◌++◌, length, Some, refl, sym, ap, subst, ◌∙◌, arith, length-append}
use Rattle.std.specs.List.{All, list_all}
use Rattle.std.specs.Str.{all_scalars}
use Rattle.std.proofs.lemmas.Bool.{and_parts, and_from, le-leb, leb-true}
use Rattle.std.proofs.lemmas.List.Elements.{All-nil, All-cons, All-head, All-tail}
use Rattle.std.specs.Prelude.{encode_utf8, encode_utf8_all}
use Rattle.std.proofs.lemmas.Str.{length-encode, len_utf8_bounds}
use Rattle.cl_types.specs.Types.{PlainType, BuffType, AsciiType, Utf8Type, ListType}
use Rattle.cl_types.specs.TypeKinds.{is_sequence, entry_of}
use Rattle.cl_types.specs.Sized.{length_of}
use Rattle.cl_types.proofs.OfKind.{sequence_type}
use Rattle.cl_values.specs.Tree.{Tree, IntV, UintV, BoolV, BuffV, AsciiV, Utf8V, PrincipalV, ListV, TupleV, NoneV, SomeV, ResponseV, Items, NoItem, Item, items_of, items_count, items_depth}
use Rattle.cl_values.specs.Valid.{IsVal, ItemsInRange, items_have_rising_keys, items_have_good_texts, has_rising_keys, has_good_texts, is_text_byte}
use Rattle.cl_values.specs.Wire.{size_of, items_size}
use Rattle.cl_values.specs.Inhabits.{inhabits, items_inhabit}
use Rattle.cl_values.specs.Computed.{Computed}
use Rattle.cl_values.specs.Sequences.{values_of, singles, entries_of, on_entries}
use Rattle.cl_values.specs.Typed.{IsOf, AllOf, HasEntriesOf}
use Rattle.cl_values.proofs.ByType.{buff_value, ascii_value, utf8_value, list_value}
use Rattle.cl_values.proofs.OfTypes.{IsIn, AllIn, IsLimited, is_of, is_in}

-- ---- lists

-- the values of a list one by one
pub record AreItems (vs : Items) (t : PlainType) : Type 0 where
  pub ranges : ItemsInRange vs
  pub keys : items_have_rising_keys vs ≡ true
  pub texts : items_have_good_texts vs ≡ true
  pub typed : items_inhabit vs t ≡ true

pub items_in : (vs : List Tree) (t : PlainType) → AllIn vs t → AreItems (items_of vs) t
items_in [] t is = record { ranges = tt; keys = refl; texts = refl; typed = refl }
items_in (v ∷ vs) t is =
    let rest : AreItems (items_of vs) t = items_in vs t is.1 in
    record {
      ranges = (is.0.ranges, rest.ranges);
      keys = and_from (has_rising_keys v) (items_have_rising_keys (items_of vs)) is.0.keys rest.keys;
      texts = and_from (has_good_texts v) (items_have_good_texts (items_of vs)) is.0.texts rest.texts;
      typed = and_from (inhabits v t) (items_inhabit (items_of vs) t) is.0.typed rest.typed;
    }

pub items_many : (vs : List Tree) → items_count (items_of vs) ≡ length vs
items_many [] = refl
items_many (v ∷ vs) = ap suc (items_many vs)

-- a list of so many values of a type
pub list_in : (vs : List Tree) (n : ℕ) (t : PlainType) → AllIn vs t → length vs ≤ n → IsIn (ListV (items_of vs)) (ListType n t)
list_in vs n t is l =
    let items : AreItems (items_of vs) t = items_in vs t is in
    record {
      ranges = items.ranges;
      keys = items.keys;
      texts = items.texts;
      typed = and_from (nat_le (items_count (items_of vs)) n) (items_inhabit (items_of vs) t) (le-leb (items_count (items_of vs)) n (omega (arith, items_many vs))) items.typed;
    }

pub values_in : (vs : Items) (t : PlainType) → AreItems vs t → AllIn (values_of vs) t
values_in NoItem t is = tt
values_in (Item v vs) t is =
    let keys = and_parts (has_rising_keys v) (items_have_rising_keys vs) is.keys in
    let texts = and_parts (has_good_texts v) (items_have_good_texts vs) is.texts in
    let typed = and_parts (inhabits v t) (items_inhabit vs t) is.typed in
    (record { ranges = is.ranges.0; keys = keys.0; texts = texts.0; typed = typed.0 }, values_in vs t (record { ranges = is.ranges.1; keys = keys.1; texts = texts.1; typed = typed.1 }))

pub values_many : (vs : Items) → length (values_of vs) ≡ items_count vs
values_many NoItem = refl
values_many (Item v vs) = ap suc (values_many vs)

-- the values of a list of a type
pub record HasValues (vs : Items) (n : ℕ) (t : PlainType) : Type 0 where
  pub each : AllIn (values_of vs) t
  pub many : length (values_of vs) ≤ n

pub list_of : (P : Tree → Type 0) (v : Tree) (n : ℕ) (t : PlainType) → IsIn v (ListType n t) → ((vs : Items) → HasValues vs n t → P (ListV vs)) → P v
list_of P v n t i p =
    list_value (λ v. IsIn v (ListType n t) → P v) v n t i.typed
    (λ vs g j.
    let both = and_parts (nat_le (items_count vs) n) (items_inhabit vs t) g in
    p vs (record {
      each = values_in vs t (record { ranges = j.ranges; keys = j.keys; texts = j.texts; typed = both.1 });
      many = omega (arith, values_many vs, leb-true (items_count vs) n both.0);
    })) i

pub all_append : (vs ws : List Tree) (t : PlainType) → AllIn vs t → AllIn ws t → AllIn (vs ++ ws) t
all_append [] ws t is js = js
all_append (v ∷ vs) ws t is js = (is.0, all_append vs ws t is.1 js)

-- ---- buffers and strings

pub buff_in : (bytes : List ℕ) (n : ℕ) → All (λ b. b < 256) bytes → length bytes ≤ n → IsIn (BuffV bytes) (BuffType n)
buff_in bytes n h l = record { ranges = h; keys = refl; texts = refl; typed = le-leb (length bytes) n l }

pub ascii_in : (bytes : List ℕ) (n : ℕ) → All (λ b. b < 256) bytes → list_all is_text_byte bytes ≡ true → length bytes ≤ n → IsIn (AsciiV bytes) (AsciiType n)
ascii_in bytes n h k l = record { ranges = h; keys = refl; texts = k; typed = le-leb (length bytes) n l }

pub utf8_in : (cs : List ℕ) (n : ℕ) → all_scalars cs ≡ true → length cs ≤ n → IsIn (Utf8V cs) (Utf8Type n)
utf8_in cs n h l = record { ranges = h; keys = refl; texts = refl; typed = le-leb (length cs) n l }

pub scalars_both : (cs ds : List ℕ) → all_scalars cs ≡ true → all_scalars ds ≡ true → all_scalars (cs ++ ds) ≡ true
scalars_both [] ds h k = k
scalars_both (c ∷ cs) ds h k =
    let both = and_parts _ (all_scalars cs) h in
    and_from _ (all_scalars (cs ++ ds)) both.0 (scalars_both cs ds both.1 k)

-- a value of such a type
pub buff_of : (P : Tree → Type 0) (v : Tree) (n : ℕ) → IsIn v (BuffType n) → ((bytes : List ℕ) → All (λ b. b < 256) bytes → length bytes ≤ n → P (BuffV bytes)) → P v
buff_of P v n i p = buff_value (λ v. IsIn v (BuffType n) → P v) v n i.typed (λ bytes g j. p bytes j.ranges (leb-true (length bytes) n g)) i

pub ascii_of : (P : Tree → Type 0) (v : Tree) (n : ℕ) → IsIn v (AsciiType n) → ((bytes : List ℕ) → All (λ b. b < 256) bytes → list_all is_text_byte bytes ≡ true → length bytes ≤ n → P (AsciiV bytes)) → P v
ascii_of P v n i p = ascii_value (λ v. IsIn v (AsciiType n) → P v) v n i.typed (λ bytes g j. p bytes j.ranges j.texts (leb-true (length bytes) n g)) i

pub utf8_of : (P : Tree → Type 0) (v : Tree) (n : ℕ) → IsIn v (Utf8Type n) → ((cs : List ℕ) → all_scalars cs ≡ true → length cs ≤ n → P (Utf8V cs)) → P v
utf8_of P v n i p = utf8_value (λ v. IsIn v (Utf8Type n) → P v) v n i.typed (λ cs g j. p cs j.ranges (leb-true (length cs) n g)) i

-- ---- entries

pub singles_many : (make : List ℕ → Tree) (xs : List ℕ) → length (singles make xs) ≡ length xs
singles_many make [] = refl
singles_many make (x ∷ xs) = ap suc (singles_many make xs)

pub buff_singles : (bytes : List ℕ) → All (λ b. b < 256) bytes → AllIn (singles BuffV bytes) (BuffType 1)
buff_singles [] h = tt
buff_singles (b ∷ bytes) h =
    (buff_in (b ∷ []) 1 (All-cons (λ b. b < 256) b [] (All-head (λ b. b < 256) b bytes h) (All-nil (λ b. b < 256))) (omega arith), buff_singles bytes (All-tail (λ b. b < 256) b bytes h))

pub ascii_singles : (bytes : List ℕ) → All (λ b. b < 256) bytes → list_all is_text_byte bytes ≡ true → AllIn (singles AsciiV bytes) (AsciiType 1)
ascii_singles [] h k = tt
ascii_singles (b ∷ bytes) h k =
    let both = and_parts (is_text_byte b) (list_all is_text_byte bytes) k in
    (ascii_in (b ∷ []) 1 (All-cons (λ b. b < 256) b [] (All-head (λ b. b < 256) b bytes h) (All-nil (λ b. b < 256))) (and_from (is_text_byte b) true both.0 refl) (omega arith), ascii_singles bytes (All-tail (λ b. b < 256) b bytes h) both.1)

pub utf8_singles : (cs : List ℕ) → all_scalars cs ≡ true → AllIn (singles Utf8V cs) (Utf8Type 1)
utf8_singles [] h = tt
utf8_singles (c ∷ cs) h =
    let both = and_parts _ (all_scalars cs) h in
    (utf8_in (c ∷ []) 1 (and_from _ true both.0 refl) (omega arith), utf8_singles cs both.1)

-- the entries of a value of a sequence type
pub record HasEntries (v : Tree) (t : PlainType) : Type 0 where
  pub entries : List Tree
  pub are : entries_of v ≡ Some entries
  pub each : AllIn entries (entry_of t)
  pub many : length entries ≤ length_of t

pub entries_in : (v : Tree) (t : PlainType) → IsIn v t → is_sequence t ≡ true → HasEntries v t
entries_in v t i h =
    sequence_type (λ t. IsIn v t → HasEntries v t) t h
    (λ n u i. list_of (λ v. HasEntries v (ListType n u)) v n u i (λ vs k. record { entries = values_of vs; are = refl; each = k.each; many = k.many }))
    (λ n i. buff_of (λ v. HasEntries v (BuffType n)) v n i (λ b g l. record { entries = singles BuffV b; are = refl; each = buff_singles b g; many = omega (arith, singles_many BuffV b, l) }))
    (λ n i. ascii_of (λ v. HasEntries v (AsciiType n)) v n i (λ b g k l. record { entries = singles AsciiV b; are = refl; each = ascii_singles b g k; many = omega (arith, singles_many AsciiV b, l) }))
    (λ n i. utf8_of (λ v. HasEntries v (Utf8Type n)) v n i (λ c g l. record { entries = singles Utf8V c; are = refl; each = utf8_singles c g; many = omega (arith, singles_many Utf8V c, l) }))
    i

-- what is made of the entries
pub on_entries_in : (P : Computed → Type 0) (f : List Tree → Computed) (v : Tree) (t : PlainType) → IsIn v t → is_sequence t ≡ true → ((xs : List Tree) → entries_of v ≡ Some xs → AllIn xs (entry_of t) → length xs ≤ length_of t → P (f xs)) → P (on_entries f (entries_of v))
on_entries_in P f v t i h p =
    let e : HasEntries v t = entries_in v t i h in
    subst (λ o. P (on_entries f o)) (sym e.are) (p e.entries e.are e.each e.many)

pub length_is : (v : Tree) (n : ℕ) (xs ys : List Tree) → entries_of v ≡ Some xs → entries_of v ≡ Some ys → length ys ≡ n → length xs ≡ n
length_is v n xs ys e f l =
    let same : xs ≡ ys = cc in
    ap length same ∙ l

-- ---- a value has no more entries than its size

pub positive : (v : Tree) → 1 ≤ size_of v
positive (IntV z) = omega arith
positive (UintV n) = omega arith
positive (BoolV b) = omega arith
positive (BuffV bytes) = omega arith
positive (AsciiV bytes) = omega arith
positive (Utf8V cs) = omega arith
positive (PrincipalV p) = omega arith
positive (ListV vs) = omega arith
positive (TupleV es) = omega arith
positive NoneV = omega arith
positive (SomeV v) = omega arith
positive (ResponseV good v) = omega arith

pub items_few : (vs : Items) → length (values_of vs) ≤ items_size vs
items_few NoItem = omega arith
items_few (Item v vs) = omega (arith, positive v, items_few vs)

pub characters_few : (cs : List ℕ) → length cs ≤ length (encode_utf8_all cs)
characters_few [] = omega arith
characters_few (c ∷ cs) = omega (arith, characters_few cs, length-append (encode_utf8 c) (encode_utf8_all cs), length-encode c, (len_utf8_bounds c).0)

pub few : (v : Tree) (xs : List Tree) → entries_of v ≡ Some xs → length xs ≤ size_of v
few (ListV vs) xs e = omega (arith, length_is (ListV vs) (length (values_of vs)) xs (values_of vs) e refl refl, items_few vs)
few (BuffV b) xs e = omega (arith, length_is (BuffV b) (length b) xs (singles BuffV b) e refl (singles_many BuffV b))
few (AsciiV b) xs e = omega (arith, length_is (AsciiV b) (length b) xs (singles AsciiV b) e refl (singles_many AsciiV b))
few (Utf8V c) xs e = omega (arith, length_is (Utf8V c) (length c) xs (singles Utf8V c) e refl (singles_many Utf8V c), characters_few c)
few v xs e = absurd cc

-- ---- entries of a value within the limits are within them

pub items_valid : (vs : Items) (t : PlainType) → AllIn (values_of vs) t → items_depth vs ≤ 32 → items_size vs ≤ 1048576 → AllOf (values_of vs) t
items_valid NoItem t is d l = tt
items_valid (Item v vs) t is d l = (
  record { valid = record { ranges = is.0.ranges; keys = is.0.keys; texts = is.0.texts; depth = omega (arith, d); size = omega (arith, l) }; typed = is.0.typed },
  items_valid vs t is.1 (omega (arith, d)) (omega (arith, l)),
)

-- entries that are small by themselves
pub small : (xs : List Tree) (t : PlainType) → IsLimited t → AllIn xs t → AllOf xs t
small [] t l is = tt
small (x ∷ xs) t l is = (is_of x t l is.0, small xs t l is.1)

-- of a value of a sequence type
pub entries_of_value : (v : Tree) (t : PlainType) → IsOf v t → is_sequence t ≡ true → HasEntriesOf v t
entries_of_value v t i h =
    sequence_type (λ t. IsOf v t → HasEntriesOf v t) t h
    (λ n u i. list_of (λ v. IsVal v → HasEntriesOf v (ListType n u)) v n u (is_in v (ListType n u) i)
    (λ vs k l. record { entries = values_of vs; there = refl; typed = items_valid vs u k.each (omega (arith, l.depth)) (omega (arith, l.size)); few = k.many }) i.valid)
    (λ n i. of_small (BuffType n) refl (record { depth = omega arith; size = omega arith }) i)
    (λ n i. of_small (AsciiType n) refl (record { depth = omega arith; size = omega arith }) i)
    (λ n i. of_small (Utf8Type n) refl (record { depth = omega arith; size = omega arith }) i)
    i
  where
    of_small : (t : PlainType) → is_sequence t ≡ true → IsLimited (entry_of t) → IsOf v t → HasEntriesOf v t
    of_small t h l i =
        let e : HasEntries v t = entries_in v t (is_in v t i) h in
        record { entries = e.entries; there = e.are; typed = small e.entries (entry_of t) l e.each; few = e.many }
