-- The rows of truth values, equality, digests, optionals and responses.
use Rattle.std.proofs.Common.{ℕ, ◌<◌, true, false, List, [], ◌∷◌, length, refl, arith}
use Rattle.std.specs.Prelude.{pos, not}
use Rattle.std.specs.Int.{w128, to_le_bytes}
use Rattle.std.proofs.lemmas.Bool.{le-leb}
use Rattle.cl_types.specs.Types.{PlainType, NoType, IntType, UintType, BoolType, BuffType, OptionalType, ResponseType}
use Rattle.cl_types.specs.TypeKinds.{is_int, is_uint, is_bool, is_optional, is_response, is_hashed}
use Rattle.cl_types.proofs.OfKind.{int_type, uint_type, bool_type, optional_type, response_type, hashed_type}
use Rattle.cl_arith.specs.Numbers.{IntKind, UintKind, as_int, as_uint, int_number, uint_number}
use Rattle.cl_arith.specs.declared.Num.TheVariants.{Int, Uint}
use Rattle.cl_arith.specs.Operations.{bits_of}
use Rattle.cl_arith.proofs.Ranges.{range_fits}
use Rattle.cl_values.specs.Tree.{Tree, BuffV, NoneV, SomeV, ResponseV}
use Rattle.cl_values.specs.Computed.{Computed}
use Rattle.cl_values.specs.Arithmetic.{to_int, to_uint, negation}
use Rattle.cl_values.specs.Natives.{equality, all_equal, digest, default_to, unwrap_panic, unwrap_err_panic}
use Rattle.cl_values.specs.Typed.{IsOf}
use Rattle.cl_values.specs.Hashes.{IsHash}
use Rattle.cl_values.proofs.ByType.{int_value, uint_value, bool_value, buff_value, optional_value, response_value}
use Rattle.cl_values.proofs.OfTypes.{IsIn, AreIn, optional_of, response_of, raised_of}
use Rattle.cl_rules.specs.NativeTypes.{Ruled, fine, of_kind, equal_row, hash_row, default_row, part_taken, part_row, err_row}
use Rattle.cl_native_sound.specs.Ending.{EndsAs}
use Rattle.cl_native_sound.proofs.Coming.{ComesTo}
use Rattle.cl_native_sound.proofs.Rulings.{IsClean, kind_holds}
use Rattle.cl_native_sound.proofs.Numbers.{comes_to_number, bool_in}
use Rattle.cl_native_sound.proofs.Supertypes.{lubbed_clean, lubs_clean}

pub to_int_in : (t : PlainType) (v : Tree) → IsIn v t → IsClean (of_kind (is_uint t) IntType) → ComesTo true false IntType (to_int (v ∷ []))
to_int_in t v i c =
    uint_type (λ t. IsIn v t → ComesTo true false IntType (to_int (v ∷ []))) t (kind_holds (is_uint t) IntType c)
    (λ i. uint_value (λ v. ComesTo true false IntType (to_int (v ∷ []))) v i.typed (λ n. comes_to_number IntKind false (int_number (as_int (pos n))) (range_fits IntKind (pos n)))) i

pub to_uint_in : (t : PlainType) (v : Tree) → IsIn v t → IsClean (of_kind (is_int t) UintType) → ComesTo true false UintType (to_uint (v ∷ []))
to_uint_in t v i c =
    int_type (λ t. IsIn v t → ComesTo true false UintType (to_uint (v ∷ []))) t (kind_holds (is_int t) UintType c)
    (λ i. int_value (λ v. ComesTo true false UintType (to_uint (v ∷ []))) v i.typed (λ z. comes_to_number UintKind false (uint_number (as_uint z)) (range_fits UintKind z))) i

pub not_in : (t : PlainType) (v : Tree) → IsIn v t → IsClean (of_kind (is_bool t) BoolType) → ComesTo false false BoolType (negation (v ∷ []))
not_in t v i c =
    bool_type (λ t. IsIn v t → ComesTo false false BoolType (negation (v ∷ []))) t (kind_holds (is_bool t) BoolType c)
    (λ i. bool_value (λ v. ComesTo false false BoolType (negation (v ∷ []))) v i.typed (λ b. bool_in (not b))) i

pub equal_in : (ts : List PlainType) (vs : List Tree) → 0 < length ts → AreIn vs ts → IsClean (equal_row ts) → ComesTo false false (equal_row ts).type (equality vs)
equal_in [] vs l is c = absurd (omega (arith, l))
equal_in (t ∷ ts) [] l is c = absurd is
equal_in (t ∷ ts) (v ∷ vs) l is c = lubs_clean (λ r. ComesTo false false r.type (equality (v ∷ vs))) t ts (λ d. fine BoolType) c (λ d dt ds k. bool_in (all_equal v vs))

-- ---- digests

digest_in : (hash : List ℕ → List ℕ) (n : ℕ) → IsHash hash n → (m : List ℕ) → IsIn (BuffV (hash m)) (BuffType n)
digest_in hash n h m = record { ranges = h.bytes m; keys = refl; texts = refl; typed = le-leb (length (hash m)) n (omega (arith, h.long m)) }

pub hash_in : (hash : List ℕ → List ℕ) (n : ℕ) → IsHash hash n → (t : PlainType) (v : Tree) → IsIn v t → IsClean (hash_row n t) → ComesTo false false (BuffType n) (digest hash (v ∷ []))
hash_in hash n h t v i c =
    hashed_type (λ t. IsIn v t → ComesTo false false (BuffType n) (digest hash (v ∷ []))) t (kind_holds (is_hashed t) (BuffType n) c)
    (λ m i. buff_value (λ v. ComesTo false false (BuffType n) (digest hash (v ∷ []))) v m i.typed (λ bytes g. digest_in hash n h bytes))
    (λ i. int_value (λ v. ComesTo false false (BuffType n) (digest hash (v ∷ []))) v i.typed (λ z. digest_in hash n h (to_le_bytes w128 (bits_of (Int z)))))
    (λ i. uint_value (λ v. ComesTo false false (BuffType n) (digest hash (v ∷ []))) v i.typed (λ k. digest_in hash n h (to_le_bytes w128 (bits_of (Uint k)))))
    i

-- ---- optionals and responses

pub some_in : (t : PlainType) (v : Tree) → IsIn v t → IsIn (SomeV v) (OptionalType t)
some_in t v i = record { ranges = i.ranges; keys = i.keys; texts = i.texts; typed = i.typed }

pub none_in : (t : PlainType) → IsIn NoneV (OptionalType t)
none_in t = record { ranges = tt; keys = refl; texts = refl; typed = refl }

pub ok_in : (t e : PlainType) (v : Tree) → IsIn v t → IsIn (ResponseV true v) (ResponseType t e)
ok_in t e v i = record { ranges = i.ranges; keys = i.keys; texts = i.texts; typed = i.typed }

pub err_in : (t e : PlainType) (v : Tree) → IsIn v e → IsIn (ResponseV false v) (ResponseType t e)
err_in t e v i = record { ranges = i.ranges; keys = i.keys; texts = i.texts; typed = i.typed }

-- a value of an optional type is none, or some of a value
pub optional_in : (P : Tree → Type 0) (v : Tree) (t : PlainType) → IsIn v (OptionalType t) → P NoneV → ((w : Tree) → IsIn w t → P (SomeV w)) → P v
optional_in P v t i none some =
    optional_value (λ v. IsIn v (OptionalType t) → P v) v t i.typed (λ j. none) (λ w g j. some w (record { ranges = j.ranges; keys = j.keys; texts = j.texts; typed = g })) i

-- a value of a response type is ok or err of a value
pub response_in : (P : Tree → Type 0) (v : Tree) (t e : PlainType) → IsIn v (ResponseType t e) → ((w : Tree) → IsIn w t → P (ResponseV true w)) → ((w : Tree) → IsIn w e → P (ResponseV false w)) → P v
response_in P v t e i ok err =
    response_value (λ v. IsIn v (ResponseType t e) → P v) v t e i.typed
    (λ w g j. ok w (record { ranges = j.ranges; keys = j.keys; texts = j.texts; typed = g }))
    (λ w g j. err w (record { ranges = j.ranges; keys = j.keys; texts = j.texts; typed = g })) i

-- a test of an optional gives a truth value
pub optional_test : (f : List Tree → Computed) → ComesTo false false BoolType (f (NoneV ∷ [])) → ((w : Tree) → ComesTo false false BoolType (f (SomeV w ∷ []))) → (t : PlainType) (v : Tree) → IsIn v t → IsClean (of_kind (is_optional t) BoolType) → ComesTo false false BoolType (f (v ∷ []))
optional_test f none some t v i c =
    optional_type (λ t. IsIn v t → ComesTo false false BoolType (f (v ∷ []))) t (kind_holds (is_optional t) BoolType c)
    (λ u i. optional_in (λ v. ComesTo false false BoolType (f (v ∷ []))) v u i none (λ w j. some w)) i

pub response_test : (f : List Tree → Computed) → ((w : Tree) → ComesTo false false BoolType (f (ResponseV true w ∷ []))) → ((w : Tree) → ComesTo false false BoolType (f (ResponseV false w ∷ []))) → (t : PlainType) (v : Tree) → IsIn v t → IsClean (of_kind (is_response t) BoolType) → ComesTo false false BoolType (f (v ∷ []))
response_test f ok err t v i c =
    response_type (λ t. IsIn v t → ComesTo false false BoolType (f (v ∷ []))) t (kind_holds (is_response t) BoolType c)
    (λ u e i. response_in (λ v. ComesTo false false BoolType (f (v ∷ []))) v u e i (λ w j. ok w) (λ w j. err w)) i

pub default_ends : (t u : PlainType) (v w : Tree) → IsOf v t → IsOf w u → IsClean (default_row t u) → EndsAs false false (default_row t u).type (default_to (v ∷ w ∷ []))
default_ends t (OptionalType u) v w i j c =
    lubbed_clean (λ r. EndsAs false false r.type (default_to (v ∷ w ∷ []))) t u fine c
    (λ d dt du k. optional_of (λ w. EndsAs false false d (default_to (v ∷ w ∷ []))) w u j (raised_of v d t dt i) (λ x y. raised_of x d u du y))
default_ends t u v w i j c = absurd cc

-- a part that is taken out is determined
pub taken : (P : Ruled → Type 0) (t : PlainType) → IsClean (part_taken t) → P (fine t) → P (part_taken t)
taken P NoType c p = absurd cc
taken P t c p = p

pub part_ends : (t : PlainType) (v : Tree) → IsOf v t → IsClean (part_row t) → EndsAs false true (part_row t).type (unwrap_panic (v ∷ []))
part_ends (OptionalType t) v i c =
    taken (λ r. EndsAs false true r.type (unwrap_panic (v ∷ []))) t c
    (optional_of (λ v. EndsAs false true t (unwrap_panic (v ∷ []))) v t i refl (λ w j. j))
part_ends (ResponseType t e) v i c =
    taken (λ r. EndsAs false true r.type (unwrap_panic (v ∷ []))) t c
    (response_of (λ v. EndsAs false true t (unwrap_panic (v ∷ []))) v t e i (λ w j. j) (λ w j. refl))
part_ends t v i c = absurd cc

pub err_part_ends : (t : PlainType) (v : Tree) → IsOf v t → IsClean (err_row t) → EndsAs false true (err_row t).type (unwrap_err_panic (v ∷ []))
err_part_ends (ResponseType t e) v i c =
    taken (λ r. EndsAs false true r.type (unwrap_err_panic (v ∷ []))) e c
    (response_of (λ v. EndsAs false true e (unwrap_err_panic (v ∷ []))) v t e i (λ w j. refl) (λ w j. j))
err_part_ends t v i c = absurd cc
