-- The rows of the natives that texts of version 2 have.
use Rattle.std.proofs.Common.{◌≡◌, ℕ, zero, suc, ◌-◌, ◌<◌, ◌≤◌, Bool, true, false, ◌&&◌, List, [], ◌∷◌, take, drop, length, Some, None, refl, inl, inr, subst, arith}
use Rattle.std.specs.Prelude.{fold, nat_le, nat_lt, slice_set, slice_range, if◌then◌else◌, option_map}
use Rattle.std.specs.declared.cmp.Ordering.{Ordering}
use Rattle.std.specs.List.{All, list_all}
use Rattle.std.specs.Str.{all_scalars}
use Rattle.std.specs.Ordering.{nat_cmp, int_cmp}
use Rattle.std.proofs.lemmas.Bool.{and_parts, and_from, or_cases}
use Rattle.std.proofs.lemmas.List.{length-set, length-take, length-drop}
use Rattle.std.proofs.lemmas.List.Elements.{All-set, All-head}
use Rattle.cl_types.specs.Types.{PlainType, IntType, UintType, BoolType, BuffType, AsciiType, Utf8Type, ListType, OptionalType, admits, size_of as type_size}
use Rattle.cl_types.specs.TypeKinds.{is_int, is_uint, is_sequence, entry_of}
use Rattle.cl_types.specs.Sized.{length_of}
use Rattle.cl_types.proofs.OfKind.{int_type, uint_type, sequence_type}
use Rattle.cl_arith.specs.declared.Num.{Num}
use Rattle.cl_arith.specs.declared.Num.TheVariants.{Int, Uint}
use Rattle.cl_arith.specs.Numbers.{Kind, IntKind, UintKind}
use Rattle.cl_arith.specs.Ranges.{IsNumber}
use Rattle.cl_arith.specs.Bits.{complement}
use Rattle.cl_arith.proofs.Bits.{complement_fits}
use Rattle.cl_values.specs.Tree.{Tree, IntV, UintV, BuffV, AsciiV, Utf8V, ListV, items_of}
use Rattle.cl_values.specs.Valid.{is_text_byte}
use Rattle.cl_values.specs.Wire.{wire}
use Rattle.cl_values.specs.Computed.{Gives}
use Rattle.cl_values.specs.Bits.{joined_by, complement_value, shifted}
use Rattle.cl_values.specs.Contents.{ordered, between_places, slice, with_entry, with_single, replace_at, consensus_bytes}
use Rattle.cl_values.specs.Sequences.{values_of, like, optional}
use Rattle.cl_values.specs.Typed.{IsOf}
use Rattle.cl_values.proofs.ByType.{int_value, uint_value}
use Rattle.cl_values.proofs.OfTypes.{IsIn, AllIn, is_in, raised, no_larger}
use Rattle.cl_values.proofs.Entries.{list_in, list_of, buff_in, ascii_in, utf8_in, buff_of, ascii_of, utf8_of, on_entries_in}
use Rattle.cl_values.proofs.Joined.{like_in}
use Rattle.cl_values.proofs.Sizes.{length-wire}
use Rattle.cl_values.proofs.WireBytes.{wire_bytes}
use Rattle.cl_rules.specs.NativeTypes.{made, is_number, content_row, shift_row, slice_row, replace_row}
use Rattle.cl_native_sound.proofs.Coming.{ComesTo}
use Rattle.cl_native_sound.proofs.Rulings.{IsClean, kind_holds, if_kind_holds}
use Rattle.cl_native_sound.proofs.Numbers.{AreNumbers, number_type, number_in, OnNumbers, bool_in}
use Rattle.cl_native_sound.proofs.ValueRows.{some_in, none_in}

-- ---- order

pub content_in : (test : Ordering → Bool) (t u : PlainType) (v w : Tree) → IsIn v t → IsIn w u → IsClean (content_row t u) → ComesTo false false BoolType (ordered test (v ∷ w ∷ []))
content_in test IntType IntType v w i j c =
    int_value (λ v. ComesTo false false BoolType (ordered test (v ∷ w ∷ []))) v i.typed
    (λ x. int_value (λ w. ComesTo false false BoolType (ordered test (IntV x ∷ w ∷ []))) w j.typed (λ y. bool_in (test (int_cmp x y))))
content_in test UintType UintType v w i j c =
    uint_value (λ v. ComesTo false false BoolType (ordered test (v ∷ w ∷ []))) v i.typed
    (λ x. uint_value (λ w. ComesTo false false BoolType (ordered test (UintV x ∷ w ∷ []))) w j.typed (λ y. bool_in (test (nat_cmp x y))))
content_in test (BuffType m) (BuffType n) v w i j c =
    buff_of (λ v. ComesTo false false BoolType (ordered test (v ∷ w ∷ []))) v m i
    (λ xs h l. buff_of (λ w. ComesTo false false BoolType (ordered test (BuffV xs ∷ w ∷ []))) w n j (λ ys g k. bool_in _))
content_in test (AsciiType m) (AsciiType n) v w i j c =
    ascii_of (λ v. ComesTo false false BoolType (ordered test (v ∷ w ∷ []))) v m i
    (λ xs h p l. ascii_of (λ w. ComesTo false false BoolType (ordered test (AsciiV xs ∷ w ∷ []))) w n j (λ ys g q k. bool_in _))
content_in test (Utf8Type m) (Utf8Type n) v w i j c =
    utf8_of (λ v. ComesTo false false BoolType (ordered test (v ∷ w ∷ []))) v m i
    (λ xs h l. utf8_of (λ w. ComesTo false false BoolType (ordered test (Utf8V xs ∷ w ∷ []))) w n j (λ ys g k. bool_in _))
content_in test t u v w i j c = absurd cc

-- ---- bits

abbrev Keeps : (Num → Num → Num) → Type 0
Keeps join = (kind : Kind) (a b : Num) → IsNumber kind a → IsNumber kind b → IsNumber kind (join a b)

joined_fits : (join : Num → Num → Num) → Keeps join → (kind : Kind) (a : Num) (ns : List Num) → IsNumber kind a → AreNumbers kind ns → IsNumber kind (fold join a ns)
joined_fits join fits kind a [] h hs = h
joined_fits join fits kind a (b ∷ ns) h hs = joined_fits join fits kind (join a b) ns (fits kind a b h hs.0) hs.1

pub joined_in : (join : Num → Num → Num) → ((kind : Kind) (a b : Num) → IsNumber kind a → IsNumber kind b → IsNumber kind (join a b)) → (count : ℕ) → OnNumbers false number_type count (joined_by join)
joined_in join fits count kind a ns h hs e = number_in kind (fold join a ns) (joined_fits join fits kind a ns h hs)

pub complement_in : (kind : Kind) (a : Num) → IsNumber kind a → ComesTo false false (number_type kind) (complement_value a)
complement_in kind a h = number_in kind (complement a) (complement_fits kind a h)

pub shift_in : (shift : Num → ℕ → Num) → ((kind : Kind) (a : Num) (places : ℕ) → IsNumber kind a → IsNumber kind (shift a places)) → (t u : PlainType) (v w : Tree) → IsIn v t → IsIn w u → IsClean (shift_row t u) → ComesTo false false t (shifted shift (v ∷ w ∷ []))
shift_in shift fits t u v w i j c =
    let both = and_parts (is_number t) (is_uint u) (kind_holds (is_number t && is_uint u) t c) in
    uint_type (λ u. IsIn w u → ComesTo false false t (shifted shift (v ∷ w ∷ []))) u both.1
    (λ j. uint_value (λ w. ComesTo false false t (shifted shift (v ∷ w ∷ []))) w j.typed
    (λ places. elim (or_cases (is_int t) (is_uint t) both.0) [
      | inl h ↦ int_type (λ t. IsIn v t → ComesTo false false t (shifted shift (v ∷ UintV places ∷ []))) t h
          (λ i. int_value (λ v. IsIn v IntType → ComesTo false false IntType (shifted shift (v ∷ UintV places ∷ []))) v i.typed (λ z k. number_in IntKind (shift (Int z) places) (fits IntKind (Int z) places k.ranges)) i) i
      | inr h ↦ uint_type (λ t. IsIn v t → ComesTo false false t (shifted shift (v ∷ UintV places ∷ []))) t h
          (λ i. uint_value (λ v. IsIn v UintType → ComesTo false false UintType (shifted shift (v ∷ UintV places ∷ []))) v i.typed (λ n k. number_in UintKind (shift (Uint n) places) (fits UintKind (Uint n) places k.ranges)) i) i
    ])) j

-- ---- parts of sequences

all_taken : (n : ℕ) (xs : List Tree) (t : PlainType) → AllIn xs t → AllIn (take n xs) t
all_taken zero xs t is = tt
all_taken (suc n) [] t is = tt
all_taken (suc n) (x ∷ xs) t is = (is.0, all_taken n xs t is.1)

all_dropped : (n : ℕ) (xs : List Tree) (t : PlainType) → AllIn xs t → AllIn (drop n xs) t
all_dropped zero xs t is = is
all_dropped (suc n) [] t is = tt
all_dropped (suc n) (x ∷ xs) t is = all_dropped n xs t is.1

range_short : (xs : List Tree) (left right : ℕ) → length (slice_range xs left right) ≤ length xs
range_short xs left right = omega (arith, length-take (right - left) (drop left xs), length-drop left xs)

part_in : (t : PlainType) (v : Tree) (xs : List Tree) (left right : ℕ) → IsIn v t → is_sequence t ≡ true → AllIn xs (entry_of t) → length xs ≤ length_of t → IsIn (optional (option_map (like v) (between_places left right xs))) (OptionalType t)
part_in t v xs left right i h is l = by (nat_le left right && nat_le right (length xs))
  where
    by : (b : Bool) → IsIn (optional (option_map (like v) (if b then Some (slice_range xs left right) else None))) (OptionalType t)
    by false = none_in t
    by true = some_in t (like v (slice_range xs left right)) (like_in t v (slice_range xs left right) i h (all_taken (right - left) (drop left xs) (entry_of t) (all_dropped left xs (entry_of t) is)) (omega (arith, l, range_short xs left right)))

pub slice_in : (t u s : PlainType) (v w x : Tree) → IsIn v t → IsIn w u → IsIn x s → IsClean (slice_row t u s) → ComesTo false false (OptionalType t) (slice (v ∷ w ∷ x ∷ []))
slice_in t u s v w x i j k c =
    let all = and_parts (is_sequence t && is_uint u) (is_uint s) (if_kind_holds (is_sequence t && is_uint u && is_uint s) (made (OptionalType t)) c) in
    let front = and_parts (is_sequence t) (is_uint u) all.0 in
    uint_type (λ u. IsIn w u → ComesTo false false (OptionalType t) (slice (v ∷ w ∷ x ∷ []))) u front.1
    (λ j. uint_value (λ w. ComesTo false false (OptionalType t) (slice (v ∷ w ∷ x ∷ []))) w j.typed
    (λ left. uint_type (λ s. IsIn x s → ComesTo false false (OptionalType t) (slice (v ∷ UintV left ∷ x ∷ []))) s all.1
    (λ k. uint_value (λ x. ComesTo false false (OptionalType t) (slice (v ∷ UintV left ∷ x ∷ []))) x k.typed
    (λ right. on_entries_in (ComesTo false false (OptionalType t)) (λ xs. Gives (optional (option_map (like v) (between_places left right xs)))) v t i front.0 (λ xs e is l. part_in t v xs left right i front.0 is l))) k)) j

-- another entry in a place

all_set : (xs : List Tree) (n : ℕ) (y : Tree) (t : PlainType) → IsIn y t → AllIn xs t → AllIn (slice_set xs n y) t
all_set [] n y t i is = tt
all_set (x ∷ xs) zero y t i is = (i, is.1)
all_set (x ∷ xs) (suc n) y t i is = (is.0, all_set xs n y t i is.1)

holds_set : (f : ℕ → Bool) (xs : List ℕ) (n y : ℕ) → f y ≡ true → list_all f xs ≡ true → list_all f (slice_set xs n y) ≡ true
holds_set f [] n y h all = refl
holds_set f (x ∷ xs) zero y h all = and_from (f y) (list_all f xs) h (and_parts (f x) (list_all f xs) all).1
holds_set f (x ∷ xs) (suc n) y h all =
    let both = and_parts (f x) (list_all f xs) all in
    and_from (f x) (list_all f (slice_set xs n y)) both.0 (holds_set f xs n y h both.1)

scalars_set : (xs : List ℕ) (n y : ℕ) → all_scalars (y ∷ []) ≡ true → all_scalars xs ≡ true → all_scalars (slice_set xs n y) ≡ true
scalars_set [] n y h all = refl
scalars_set (x ∷ xs) zero y h all = and_from _ (all_scalars xs) (and_parts _ true h).0 (and_parts _ (all_scalars xs) all).1
scalars_set (x ∷ xs) (suc n) y h all =
    let both = and_parts _ (all_scalars xs) all in
    and_from _ (all_scalars (slice_set xs n y)) both.0 (scalars_set xs n y h both.1)

entry_in : {A : Type 0} (make : List A → Tree) (t : PlainType) (xs : List A) (place : ℕ) (y : A) → IsIn (make (slice_set xs place y)) t → IsIn (optional (option_map make (with_entry place y xs))) (OptionalType t)
entry_in {A} make t xs place y i = by (nat_lt place (length xs))
  where
    by : (b : Bool) → IsIn (optional (option_map make (if b then Some (slice_set xs place y) else None))) (OptionalType t)
    by false = none_in t
    by true = some_in t (make (slice_set xs place y)) i

single_in : (make : List ℕ → Tree) (t : PlainType) (ys xs : List ℕ) (place : ℕ) → ((y : ℕ) → ys ≡ y ∷ [] → IsIn (make (slice_set xs place y)) t) → IsIn (optional (option_map make (with_single place ys xs))) (OptionalType t)
single_in make t [] xs place p = none_in t
single_in make t (y ∷ []) xs place p = entry_in make t xs place y (p y refl)
single_in make t (y ∷ z ∷ ys) xs place p = none_in t

byte_set : (xs ys : List ℕ) (place y : ℕ) → All (λ b. b < 256) xs → All (λ b. b < 256) ys → ys ≡ y ∷ [] → All (λ b. b < 256) (slice_set xs place y)
byte_set xs ys place y h g e = All-set (λ b. b < 256) xs place y (All-head (λ b. b < 256) y [] (subst (All (λ b. b < 256)) e g)) h

pub replace_in : (t u s : PlainType) (v w x : Tree) → IsIn v t → IsIn w u → IsIn x s → IsClean (replace_row t u s) → ComesTo false false (OptionalType t) (replace_at (v ∷ w ∷ x ∷ []))
replace_in t u s v w x i j k c =
    let all = and_parts (is_sequence t && is_uint u) (admits (entry_of t) s) (if_kind_holds (is_sequence t && is_uint u && admits (entry_of t) s) (made (OptionalType t)) c) in
    let front = and_parts (is_sequence t) (is_uint u) all.0 in
    uint_type (λ u. IsIn w u → ComesTo false false (OptionalType t) (replace_at (v ∷ w ∷ x ∷ []))) u front.1
    (λ j. uint_value (λ w. ComesTo false false (OptionalType t) (replace_at (v ∷ w ∷ x ∷ []))) w j.typed
    (λ place. at_place place t front.0 v x i (raised x (entry_of t) s all.1 k))) j
  where
    at_place : (place : ℕ) (t : PlainType) → is_sequence t ≡ true → (v x : Tree) → IsIn v t → IsIn x (entry_of t) → ComesTo false false (OptionalType t) (replace_at (v ∷ UintV place ∷ x ∷ []))
    at_place place t h v x i k =
        sequence_type (λ t. IsIn v t → IsIn x (entry_of t) → ComesTo false false (OptionalType t) (replace_at (v ∷ UintV place ∷ x ∷ []))) t h
        (λ n e i k. list_of (λ v. ComesTo false false (OptionalType (ListType n e)) (replace_at (v ∷ UintV place ∷ x ∷ []))) v n e i
        (λ vs g. entry_in (λ ws. ListV (items_of ws)) (ListType n e) (values_of vs) place x (list_in (slice_set (values_of vs) place x) n e (all_set (values_of vs) place x e k g.each) (omega (arith, g.many, length-set (values_of vs) place x)))))
        (λ n i k. buff_of (λ v. ComesTo false false (OptionalType (BuffType n)) (replace_at (v ∷ UintV place ∷ x ∷ []))) v n i
        (λ xs g l. buff_of (λ x. ComesTo false false (OptionalType (BuffType n)) (replace_at (BuffV xs ∷ UintV place ∷ x ∷ []))) x 1 k
        (λ ys f m. single_in BuffV (BuffType n) ys xs place (λ y e. buff_in (slice_set xs place y) n (byte_set xs ys place y g f e) (omega (arith, l, length-set xs place y))))))
        (λ n i k. ascii_of (λ v. ComesTo false false (OptionalType (AsciiType n)) (replace_at (v ∷ UintV place ∷ x ∷ []))) v n i
        (λ xs g p l. ascii_of (λ x. ComesTo false false (OptionalType (AsciiType n)) (replace_at (AsciiV xs ∷ UintV place ∷ x ∷ []))) x 1 k
        (λ ys f q m. single_in AsciiV (AsciiType n) ys xs place
        (λ y e. ascii_in (slice_set xs place y) n (byte_set xs ys place y g f e) (holds_set is_text_byte xs place y (and_parts (is_text_byte y) true (subst (λ (zs : List ℕ). list_all is_text_byte zs ≡ true) e q)).0 p) (omega (arith, l, length-set xs place y))))))
        (λ n i k. utf8_of (λ v. ComesTo false false (OptionalType (Utf8Type n)) (replace_at (v ∷ UintV place ∷ x ∷ []))) v n i
        (λ xs g l. utf8_of (λ x. ComesTo false false (OptionalType (Utf8Type n)) (replace_at (Utf8V xs ∷ UintV place ∷ x ∷ []))) x 1 k
        (λ ys f m. single_in Utf8V (Utf8Type n) ys xs place
        (λ y e. utf8_in (slice_set xs place y) n (scalars_set xs place y (subst (λ (zs : List ℕ). all_scalars zs ≡ true) e f) g) (omega (arith, l, length-set xs place y))))))
        i k

-- ---- the wire form

pub consensus_in : (t : PlainType) (v : Tree) → IsOf v t → ComesTo false false (OptionalType (BuffType (type_size t))) (consensus_bytes (v ∷ []))
consensus_in t v i =
    some_in (BuffType (type_size t)) (BuffV (wire v))
    (buff_in (wire v) (type_size t) (wire_bytes v (is_in v t i).ranges) (omega (arith, length-wire v, no_larger v t i)))
