-- The type of a row that makes a type, or has a fixed one, has its depth and size within the limits.
use Rattle.std.proofs.Common.{ℕ, ◌+◌, ◌≤◌, List, [], ◌∷◌, ◌&&◌, nat_le, length, inl, inr, arith}
use Rattle.std.specs.List.{list_all}
use Rattle.std.proofs.lemmas.Bool.{and_parts, or_cases, leb-true}
use Rattle.cl_types.specs.Sized.{is_within, length_of}
use Rattle.cl_types.specs.Types.{PlainType, NoType, IntType, UintType, BoolType, BuffType, AsciiType, Utf8Type, ListType, TupleType, OptionalType, admits, size_of as type_size}
use Rattle.cl_types.specs.TypeKinds.{is_int, is_uint, is_sequence, are_numbers, entry_of, resized}
use Rattle.cl_types.proofs.Everywhere.{here}
use Rattle.cl_types.proofs.OfKind.{int_type, uint_type}
use Rattle.cl_values.proofs.OfTypes.{IsLimited}
use Rattle.cl_rules.specs.NativeTypes.{fine, made, first_of, number_row, equal_row, list_row, merged, merge_row, append_row, concat_row, element_row, max_len_row, is_number, shift_row, slice_row, replace_row}
use Rattle.cl_native_sound.proofs.Rulings.{IsClean, IsMade, made_fits, kind_holds, if_kind_rest}
use Rattle.cl_native_sound.proofs.Supertypes.{lubbed_clean, lubs_clean}

pub no_limits : IsLimited NoType
no_limits = record { depth = omega arith; size = omega arith }

pub int_limits : IsLimited IntType
int_limits = record { depth = omega arith; size = omega arith }

pub uint_limits : IsLimited UintType
uint_limits = record { depth = omega arith; size = omega arith }

pub bool_limits : IsLimited BoolType
bool_limits = record { depth = omega arith; size = omega arith }

pub digest_limits : (n : ℕ) → n ≤ 64 → IsLimited (BuffType n)
digest_limits n h = record { depth = omega arith; size = omega (arith, h) }

pub place_limits : IsLimited (OptionalType UintType)
place_limits = record { depth = omega arith; size = omega arith }

made_limits : (t : PlainType) → IsMade t → IsLimited t
made_limits t m = record { depth = m.deep; size = leb-true (type_size t) 1048576 (and_parts (nat_le (type_size t) 1048576) (nat_le (length_of t) 1048576) (here is_within t m.small)).0 }

pub limits : (t : PlainType) → IsClean (made t) → IsLimited t
limits t c = made_limits t (made_fits t c)

pub first_limits : (ts : List PlainType) → IsClean (number_row ts) → IsLimited (first_of ts)
first_limits [] c = no_limits
first_limits (t ∷ ts) c =
    elim (or_cases (list_all is_int (t ∷ ts)) (list_all is_uint (t ∷ ts)) (kind_holds (are_numbers (t ∷ ts)) t c)) [
      | inl h ↦ int_type IsLimited t (and_parts (is_int t) (list_all is_int ts) h).0 int_limits
      | inr h ↦ uint_type IsLimited t (and_parts (is_uint t) (list_all is_uint ts) h).0 uint_limits
    ]

pub equal_limits : (ts : List PlainType) → IsClean (equal_row ts) → IsLimited (equal_row ts).type
equal_limits [] c = no_limits
equal_limits (t ∷ ts) c = lubs_clean (λ r. IsLimited r.type) t ts (λ d. fine BoolType) c (λ d dt ds k. bool_limits)

pub list_limits : (ts : List PlainType) → IsClean (list_row ts) → IsLimited (list_row ts).type
list_limits ts c = lubs_clean (λ r. IsLimited r.type) NoType ts (λ d. made (ListType (length ts) d)) c (λ d dn ds k. limits (ListType (length ts) d) k)

pub append_limits : (t u : PlainType) → IsClean (append_row t u) → IsLimited (append_row t u).type
append_limits (ListType n t) u c = lubbed_clean (λ r. IsLimited r.type) t u (λ d. made (ListType (n + 1) d)) c (λ d dt du k. limits (ListType (n + 1) d) k)
append_limits t u c = absurd cc

pub concat_limits : (t u : PlainType) → IsClean (concat_row t u) → IsLimited (concat_row t u).type
concat_limits (ListType m t) (ListType n u) c = lubbed_clean (λ r. IsLimited r.type) t u (λ d. made (ListType (m + n) d)) c (λ d dt du k. limits (ListType (m + n) d) k)
concat_limits (BuffType m) (BuffType n) c = limits (BuffType (m + n)) c
concat_limits (AsciiType m) (AsciiType n) c = limits (AsciiType (m + n)) c
concat_limits (Utf8Type m) (Utf8Type n) c = limits (Utf8Type (m + n)) c
concat_limits t u c = absurd cc

pub merge_limits : (t u : PlainType) → IsClean (merge_row t u) → IsLimited (merge_row t u).type
merge_limits (TupleType fs) (TupleType gs) c = limits (TupleType (merged fs gs)) c
merge_limits t u c = absurd cc

pub element_limits : (t u : PlainType) → IsClean (element_row t u) → IsLimited (OptionalType (entry_of t))
element_limits t u c = limits (OptionalType (entry_of t)) (if_kind_rest (is_sequence t && is_uint u) (made (OptionalType (entry_of t))) c)

pub max_len_limits : (m : ℕ) (t : PlainType) → IsClean (max_len_row m t) → IsLimited (OptionalType (resized m t))
max_len_limits m t c = limits (OptionalType (resized m t)) (if_kind_rest (is_sequence t) (made (OptionalType (resized m t))) c)

pub shift_limits : (t u : PlainType) → IsClean (shift_row t u) → IsLimited t
shift_limits t u c =
    let both = and_parts (is_number t) (is_uint u) (kind_holds (is_number t && is_uint u) t c) in
    elim (or_cases (is_int t) (is_uint t) both.0) [
      | inl h ↦ int_type IsLimited t h int_limits
      | inr h ↦ uint_type IsLimited t h uint_limits
    ]

pub slice_limits : (t u s : PlainType) → IsClean (slice_row t u s) → IsLimited (OptionalType t)
slice_limits t u s c = limits (OptionalType t) (if_kind_rest (is_sequence t && is_uint u && is_uint s) (made (OptionalType t)) c)

pub replace_limits : (t u s : PlainType) → IsClean (replace_row t u s) → IsLimited (OptionalType t)
replace_limits t u s c = limits (OptionalType t) (if_kind_rest (is_sequence t && is_uint u && admits (entry_of t) s) (made (OptionalType t)) c)
