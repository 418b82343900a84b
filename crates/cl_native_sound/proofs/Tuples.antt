-- Tuples: the rows of `merge`, `get` and `tuple`.
use Rattle.std.proofs.Common.{◌≡◌, ℕ, ◌<◌, List, [], ◌∷◌, Bool, true, false, ◌&&◌, nat_eq, Option, Some, None, if◌then◌else◌, length, refl, ap, sym, ◌∙◌, subst, arith, ◌||◌}
use Rattle.std.specs.Prelude.{zip, option_map}
use Rattle.std.specs.List.{list_any}
use Rattle.std.specs.Cmp.Lexicographic.{pointwise, same_text}
use Rattle.std.proofs.lemmas.Bool.{and_parts, and_from, or_parts, false≢true}
use Rattle.cl_types.specs.Name.{IsName, AreNames}
use Rattle.cl_types.specs.Types.{PlainType, TupleType, OptionalType, Fields, NoField, Field}
use Rattle.cl_types.specs.Sized.{is_below, is_among, keys_in, some_rise, rises as keys_rise, placed, fields_rise}
use Rattle.cl_types.proofs.Lattice.{key_same}
use Rattle.cl_types.proofs.Rising.{rising_fields, rest_rises, absent_above, absent_placed, placed_rises}
use Rattle.cl_values.specs.Tree.{Tree, TupleV, SomeV, Entries, NoEntry, Entry}
use Rattle.cl_values.specs.Valid.{IsVal, EntriesInRange, has_rising_keys, has_good_texts, entries_have_rising_keys, entries_have_good_texts, keys_in as entry_keys, rises}
use Rattle.cl_values.specs.Inhabits.{inhabits, entries_inhabit}
use Rattle.cl_values.specs.Tuples.{value_at, is_among as entry_among, placed as entry_placed, merged as entries_merged, sorted_entries, merge, known, part_at}
use Rattle.cl_values.specs.Typed.{IsOf}
use Rattle.cl_values.proofs.ByType.{tuple_value}
use Rattle.cl_values.proofs.OfTypes.{IsIn, AreIn, is_in}
use Rattle.cl_values.proofs.Parts.{tuple_part, entry_part}
use Rattle.cl_rules.specs.Context.{same}
use Rattle.cl_rules.specs.NativeTypes.{Ruled, fine, made, type_of_key, under_key, merged as fields_merged, merge_row, get_row}
use Rattle.cl_rules.specs.DataShapes.{stands_twice, fields_by}
use Rattle.cl_native_sound.specs.Ending.{EndsAs}
use Rattle.cl_native_sound.proofs.Coming.{ComesTo, ends_as}
use Rattle.cl_native_sound.proofs.Rulings.{IsClean}
use Rattle.cl_native_sound.proofs.ValueRows.{some_in, none_in, optional_in}
use Rattle.cl_native_sound.proofs.Limits.{limits}

-- ---- entries that match fields

-- the same keys, which are names, and each value is of its key's type
abbrev pub Match : Entries → Fields → Type 0
Match NoEntry NoField = Unit {0}
Match (Entry k v es) (Field j t fs) = (k ≡ j) × IsName k × IsIn v t × Match es fs
Match NoEntry (Field j t fs) = ⊥
Match (Entry k v es) NoField = ⊥

-- the entries of a tuple but for the order of its keys
record AreEntries (es : Entries) (fs : Fields) : Type 0 where
  ranges : EntriesInRange es
  keys : entries_have_rising_keys es ≡ true
  texts : entries_have_good_texts es ≡ true
  typed : entries_inhabit es fs ≡ true

matched : (es : Entries) (fs : Fields) → AreEntries es fs → Match es fs
matched NoEntry NoField a = tt
matched NoEntry (Field j t fs) a = false≢true a.typed
matched (Entry k v es) NoField a = false≢true a.typed
matched (Entry k v es) (Field j t fs) a =
    let keys = and_parts (has_rising_keys v) (entries_have_rising_keys es) a.keys in
    let texts = and_parts (has_good_texts v) (entries_have_good_texts es) a.texts in
    let typed = and_parts (pointwise nat_eq k j && inhabits v t) (entries_inhabit es fs) a.typed in
    let first = and_parts (pointwise nat_eq k j) (inhabits v t) typed.0 in (
      same_text k j (sym first.0),
      a.ranges.0,
      record { ranges = a.ranges.1; keys = keys.0; texts = texts.0; typed = first.1 },
      matched es fs (record { ranges = a.ranges.2; keys = keys.1; texts = texts.1; typed = typed.1 }),
    )

entries_are : (es : Entries) (fs : Fields) → Match es fs → AreEntries es fs
entries_are NoEntry NoField m = record { ranges = tt; keys = refl; texts = refl; typed = refl }
entries_are NoEntry (Field j t fs) m = absurd m
entries_are (Entry k v es) NoField m = absurd m
entries_are (Entry k v es) (Field j t fs) m =
    let rest : AreEntries es fs = entries_are es fs m.3 in
    record {
      ranges = (m.1, m.2.ranges, rest.ranges);
      keys = and_from (has_rising_keys v) (entries_have_rising_keys es) m.2.keys rest.keys;
      texts = and_from (has_good_texts v) (entries_have_good_texts es) m.2.texts rest.texts;
      typed = and_from (pointwise nat_eq k j && inhabits v t) (entries_inhabit es fs) (and_from (pointwise nat_eq k j) (inhabits v t) (subst (λ (x : List ℕ). pointwise nat_eq k x ≡ true) m.0 (key_same k)) m.2.typed) rest.typed;
    }

pub tuple_in : (es : Entries) (fs : Fields) → Match es fs → rises es ≡ true → IsIn (TupleV es) (TupleType fs)
tuple_in es fs m r =
    let a : AreEntries es fs = entries_are es fs m in
    record { ranges = a.ranges; keys = and_from (rises es) (entries_have_rising_keys es) r a.keys; texts = a.texts; typed = a.typed }

pub tuple_of : (P : Tree → Type 0) (v : Tree) (fs : Fields) → IsIn v (TupleType fs) → ((es : Entries) → Match es fs → rises es ≡ true → P (TupleV es)) → P v
tuple_of P v fs i p =
    tuple_value (λ v. IsIn v (TupleType fs) → P v) v fs i.typed
    (λ es g j. let keys = and_parts (rises es) (entries_have_rising_keys es) j.keys in p es (matched es fs (record { ranges = j.ranges; keys = keys.1; texts = j.texts; typed = g })) keys.0) i

-- the keys of the fields rise as those of the entries
same_keys : (es : Entries) (fs : Fields) → Match es fs → entry_keys es ≡ keys_in fs
same_keys NoEntry NoField m = refl
same_keys NoEntry (Field j t fs) m = absurd m
same_keys (Entry i v es) NoField m = absurd m
same_keys (Entry i v es) (Field j t fs) m = λ x. m.0 x ∷ same_keys es fs m.3 x

pub same_rises : (es : Entries) (fs : Fields) → Match es fs → rises es ≡ keys_rise fs
same_rises es fs m = ap some_rise (same_keys es fs m)

-- ---- what is made of entries matches what is made of their fields

placed_along : (k : List ℕ) (v : Tree) (t : PlainType) (es : Entries) (fs : Fields) → IsName k → IsIn v t → Match es fs → Match (entry_placed k v es) (placed k t fs)
placed_along k v t NoEntry NoField n i m = (refl, n, i, tt)
placed_along k v t NoEntry (Field j u fs) n i m = absurd m
placed_along k v t (Entry h w es) NoField n i m = absurd m
placed_along k v t (Entry h w es) (Field j u fs) n i m = by (is_below h k) (is_below j k) (ap (λ x. is_below x k) m.0) (placed_along k v t es fs n i m.3)
  where
    by : (b c : Bool) → b ≡ c → Match (entry_placed k v es) (placed k t fs) → Match (if b then Entry h w (entry_placed k v es) else Entry k v (Entry h w es)) (if c then Field j u (placed k t fs) else Field k t (Field j u fs))
    by true true e rest = (m.0, m.1, m.2, rest)
    by false false e rest = (refl, n, i, m)
    by true false e rest = absurd cc
    by false true e rest = absurd cc

among_along : (k : List ℕ) (es : Entries) (fs : Fields) → Match es fs → entry_among k es ≡ is_among k fs
among_along k NoEntry NoField m = refl
among_along k NoEntry (Field j u fs) m = absurd m
among_along k (Entry h w es) NoField m = absurd m
among_along k (Entry h w es) (Field j u fs) m = ap (λ x. pointwise nat_eq k x || entry_among k es) m.0 ∙ ap (λ b. pointwise nat_eq k j || b) (among_along k es fs m.3)

pub merged_match : (es gs : Entries) (fs hs : Fields) → Match es fs → Match gs hs → Match (entries_merged es gs) (fields_merged fs hs)
merged_match NoEntry gs NoField hs m n = n
merged_match NoEntry gs (Field j u fs) hs m n = absurd m
merged_match (Entry k v es) gs NoField hs m n = absurd m
merged_match (Entry k v es) gs (Field j t fs) hs m n = by (entry_among k gs) (is_among j hs) (among_along k gs hs n ∙ ap (λ x. is_among x hs) m.0) (merged_match es gs fs hs m.3 n)
  where
    by : (b c : Bool) → b ≡ c → Match (entries_merged es gs) (fields_merged fs hs) → Match (if b then entries_merged es gs else entry_placed k v (entries_merged es gs)) (if c then fields_merged fs hs else placed j t (fields_merged fs hs))
    by true true e rest = rest
    by false false e rest = subst (λ x. Match (entry_placed k v (entries_merged es gs)) (placed x t (fields_merged fs hs))) m.0 (placed_along k v t (entries_merged es gs) (fields_merged fs hs) m.1 m.2 rest)
    by true false e rest = absurd cc
    by false true e rest = absurd cc

-- ---- merge

absent_merged : (q : List ℕ) (fs gs : Fields) → is_among q fs ≡ false → is_among q gs ≡ false → is_among q (fields_merged fs gs) ≡ false
absent_merged q NoField gs n m = m
absent_merged q (Field k t fs) gs n m =
    let both = or_parts (pointwise nat_eq q k) (is_among q fs) n in
    by (is_among k gs) both.0 (absent_merged q fs gs both.1 m)
  where
    by : (b : Bool) → pointwise nat_eq q k ≡ false → is_among q (fields_merged fs gs) ≡ false → is_among q (if b then fields_merged fs gs else placed k t (fields_merged fs gs)) ≡ false
    by true e rest = rest
    by false e rest = absent_placed q k t (fields_merged fs gs) e rest

fields_merged_rise : (fs gs : Fields) → fields_rise fs ≡ true → keys_rise gs ≡ true → keys_rise (fields_merged fs gs) ≡ true
fields_merged_rise NoField gs h g = g
fields_merged_rise (Field k t fs) gs h g = by (is_among k gs) refl (fields_merged_rise fs gs (rest_rises k fs h) g)
  where
    by : (b : Bool) → is_among k gs ≡ b → keys_rise (fields_merged fs gs) ≡ true → keys_rise (if b then fields_merged fs gs else placed k t (fields_merged fs gs)) ≡ true
    by true e rest = rest
    by false e rest = placed_rises k t (fields_merged fs gs) (absent_merged k fs gs (absent_above k fs h) e) (rising_fields (fields_merged fs gs) rest)

pub merge_in : (t u : PlainType) (v w : Tree) → IsIn v t → IsIn w u → IsClean (merge_row t u) → ComesTo false false (merge_row t u).type (merge (v ∷ w ∷ []))
merge_in (TupleType fs) (TupleType hs) v w i j c =
    tuple_of (λ v. ComesTo false false (TupleType (fields_merged fs hs)) (merge (v ∷ w ∷ []))) v fs i
    (λ es m r. tuple_of (λ w. ComesTo false false (TupleType (fields_merged fs hs)) (merge (TupleV es ∷ w ∷ []))) w hs j
    (λ gs n s.
    let both : Match (entries_merged es gs) (fields_merged fs hs) = merged_match es gs fs hs m n in
    tuple_in (entries_merged es gs) (fields_merged fs hs) both
    (same_rises (entries_merged es gs) (fields_merged fs hs) both ∙ fields_merged_rise fs hs (rising_fields fs (sym (same_rises es fs m) ∙ r)) (sym (same_rises gs hs n) ∙ s))))
merge_in t u v w i j c = absurd cc

-- ---- get

-- under a key of the fields stands a value of its type
pub record IsThere (k : List ℕ) (es : Entries) (t : PlainType) : Type 0 where
  value : Tree
  there : value_at k es ≡ Some value
  typed : IsIn value t

match_at : (k : List ℕ) (es : Entries) (fs : Fields) (t : PlainType) → Match es fs → type_of_key k fs ≡ Some t → IsThere k es t
match_at k NoEntry NoField t m e = absurd cc
match_at k NoEntry (Field j u fs) t m e = absurd m
match_at k (Entry h w es) NoField t m e = absurd m
match_at k (Entry h w es) (Field j u fs) t m e = by (pointwise nat_eq k h) (pointwise nat_eq k j) refl (ap (pointwise nat_eq k) m.0) (match_at k es fs t m.3) e
  where
    by : (b c : Bool) → pointwise nat_eq k h ≡ b → b ≡ c → (type_of_key k fs ≡ Some t → IsThere k es t) → (if c then Some u else type_of_key k fs) ≡ Some t → IsThere k (Entry h w es) t
    by true true f g rest e =
        let same : u ≡ t = cc in
        record { value = w; there = ap (λ (b : Bool). if b then Some w else value_at k es) f; typed = subst (IsIn w) same m.2 }
    by false false f g rest e =
        let r : IsThere k es t = rest e in
        record { value = r.value; there = ap (λ (b : Bool). if b then Some w else value_at k es) f ∙ r.there; typed = r.typed }
    by true false f g rest e = absurd cc
    by false true f g rest e = absurd cc

pub under_key_clean : (P : Ruled → Type 0) (o : Option PlainType) (make : PlainType → Ruled) → IsClean (under_key o make) → ((t : PlainType) → o ≡ Some t → IsClean (make t) → P (make t)) → P (under_key o make)
under_key_clean P None make c p = absurd cc
under_key_clean P (Some t) make c p = p t refl c

pub get_ends : (k : List ℕ) (t : PlainType) (v : Tree) → IsOf v t → IsClean (get_row k t) → EndsAs false false (get_row k t).type (part_at k v)
get_ends k (TupleType fs) v i c =
    under_key_clean (λ r. EndsAs false false r.type (part_at k v)) (type_of_key k fs) fine c
    (λ t e d. tuple_of (λ v. IsVal v → EndsAs false false t (part_at k v)) v fs (is_in v (TupleType fs) i)
    (λ es m r h.
    let x : IsThere k es t = match_at k es fs t m e in
    subst (λ (o : Option Tree). EndsAs false false t (known o)) (sym x.there) (record { valid = entry_part k es x.value (tuple_part es h) x.there; typed = x.typed.typed })) i.valid)
get_ends k (OptionalType (TupleType fs)) v i c =
    under_key_clean (λ r. EndsAs false false r.type (part_at k v)) (type_of_key k fs) (λ t. made (OptionalType t)) c
    (λ t e d. ends_as false false (OptionalType t) (part_at k v) (limits (OptionalType t) d)
    (optional_in (λ v. ComesTo false false (OptionalType t) (part_at k v)) v (TupleType fs) (is_in v (OptionalType (TupleType fs)) i) (none_in t)
    (λ w j. tuple_of (λ w. ComesTo false false (OptionalType t) (part_at k (SomeV w))) w fs j
    (λ es m r.
    let x : IsThere k es t = match_at k es fs t m e in
    subst (λ (o : Option Tree). ComesTo false false (OptionalType t) (known (option_map SomeV o))) (sym x.there) (some_in t x.value x.typed)))))
get_ends k t v i c = absurd cc

-- ---- a tuple of pairs

-- a key that isn't among the keys isn't among their fields
pub fresh : (k : List ℕ) (ks : List (List ℕ)) (ts : List PlainType) → list_any (same k) ks ≡ false → is_among k (fields_by ks ts) ≡ false
fresh k [] ts h = refl
fresh k (j ∷ ks) [] h = refl
fresh k (j ∷ ks) (t ∷ ts) h =
    let both = or_parts (same k j) (list_any (same k) ks) h in
    absent_placed k j t (fields_by ks ts) both.0 (fresh k ks ts both.1)

pub fields_by_rise : (ks : List (List ℕ)) (ts : List PlainType) → stands_twice ks ≡ false → fields_rise (fields_by ks ts) ≡ true
fields_by_rise [] ts h = refl
fields_by_rise (k ∷ ks) [] h = refl
fields_by_rise (k ∷ ks) (t ∷ ts) h =
    let both = or_parts (list_any (same k) ks) (stands_twice ks) h in
    rising_fields (placed k t (fields_by ks ts)) (placed_rises k t (fields_by ks ts) (fresh k ks ts both.0) (fields_by_rise ks ts both.1))

pub some_pair_rises : (ks : List (List ℕ)) (ts : List PlainType) → stands_twice ks ≡ false → 0 < length ks → length ks ≡ length ts → keys_rise (fields_by ks ts) ≡ true
some_pair_rises [] ts d l e = absurd (omega (arith, l))
some_pair_rises (k ∷ ks) [] d l e = absurd (omega (arith, e))
some_pair_rises (k ∷ ks) (t ∷ ts) d l e =
    let both = or_parts (list_any (same k) ks) (stands_twice ks) d in
    placed_rises k t (fields_by ks ts) (fresh k ks ts both.0) (fields_by_rise ks ts both.1)

pairs_match : (ks : List (List ℕ)) (ts : List PlainType) (vs : List Tree) → AreNames ks → AreIn vs ts → Match (sorted_entries (zip ks vs)) (fields_by ks ts)
pairs_match [] ts vs n i = tt
pairs_match (k ∷ ks) [] [] n i = tt
pairs_match (k ∷ ks) [] (v ∷ vs) n i = absurd i
pairs_match (k ∷ ks) (t ∷ ts) [] n i = absurd i
pairs_match (k ∷ ks) (t ∷ ts) (v ∷ vs) n i = placed_along k v t (sorted_entries (zip ks vs)) (fields_by ks ts) n.0 i.0 (pairs_match ks ts vs n.1 i.1)

pub pairs_in : (ks : List (List ℕ)) (ts : List PlainType) (vs : List Tree) → AreNames ks → stands_twice ks ≡ false → 0 < length ks → length ks ≡ length ts → AreIn vs ts → IsIn (TupleV (sorted_entries (zip ks vs))) (TupleType (fields_by ks ts))
pairs_in ks ts vs ns d l e is =
    let m : Match (sorted_entries (zip ks vs)) (fields_by ks ts) = pairs_match ks ts vs ns is in
    tuple_in (sorted_entries (zip ks vs)) (fields_by ks ts) m (same_rises (sorted_entries (zip ks vs)) (fields_by ks ts) m ∙ some_pair_rises ks ts d l e)
