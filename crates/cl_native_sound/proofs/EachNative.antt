-- Each native by its row.
use Rattle.std.proofs.Common.{◌≡◌, suc, ◌≤◌, List, [], ◌∷◌, true, false, length, subst, arith}
use Rattle.std.specs.Prelude.{int_lt, int_le}
use Rattle.std.specs.Ordering.{is_lt, is_le, is_gt, is_ge}
use Rattle.std.proofs.lemmas.Bool.{eqb-true}
use Rattle.sha2.specs.Sha256.{sha256}
use Rattle.sha2.specs.Sha512.{sha512, sha512_256}
use Rattle.cl_types.specs.Types.{PlainType, NoType, OptionalType, ResponseType, BoolType, BuffType, size_of as type_size}
use Rattle.cl_arith.specs.Operations.{sum, product, quotient, remainder, power, exclusive_or}
use Rattle.cl_arith.specs.Bits.{conjunction, disjunction, shifted_left, shifted_right}
use Rattle.cl_arith.specs.Roots.{root_of, log2_of}
use Rattle.cl_arith.proofs.Ranges.{xor_fits}
use Rattle.cl_arith.proofs.Bits.{conjunction_fits, disjunction_fits, left_fits, right_fits}
use Rattle.cl_values.specs.Tree.{Tree}
use Rattle.cl_values.specs.Computed.{Gives}
use Rattle.cl_values.specs.Wire.{size_of}
use Rattle.cl_values.specs.Arithmetic.{from_left, subtracted, of_two, of_one, pair_value, xor_value, root_value, log2_value, comparison}
use Rattle.cl_values.specs.Bits.{joined_by, complement_value}
use Rattle.cl_values.specs.Natives.{native_value, is_some, is_none, is_ok, is_err}
use Rattle.cl_values.specs.Typed.{AreOf, IsOf}
use Rattle.cl_values.proofs.Digests.{hash_256, hash_512, hash_512_256}
use Rattle.cl_values.proofs.OfTypes.{IsIn, AreIn, IsLimited, is_in, are_in, no_larger}
use Rattle.cl_values.specs.declared.native.Native.{Native}
use Rattle.cl_values.specs.declared.native.Native.TheVariants.{Add, Subtract, Multiply, Divide, Modulo, Power, Xor, SquareRoot, Log2, ToInt, ToUint, Not, Less, AtMost, Greater, AtLeast, Same, Sha256, Sha512Of256, Sha512, MakeSome, MakeOk, MakeErr, IsSome, IsNone, IsOk, IsErr, DefaultTo, UnwrapPanic, UnwrapErrPanic, MakeList, Merge, Append, Concat, Len, ElementAt, IndexOf, ContentLess, ContentAtMost, ContentGreater, ContentAtLeast, BitAnd, BitOr, BitXor, BitNot, ShiftLeft, ShiftRight, Slice, ReplaceAt, EntryAt, PlaceOf, ToConsensusBuff}
use Rattle.cl_forms.specs.declared.head.Head.TheVariants.{OnValues}
use Rattle.cl_forms.specs.Heads.{Exact, OrMore, takes, row_of}
use Rattle.cl_rules.specs.NativeTypes.{native_type}
use Rattle.cl_native_sound.specs.Ending.{EndsAs, may_fail, may_panic}
use Rattle.cl_native_sound.specs.Laws.{AreFit}
use Rattle.cl_native_sound.proofs.Rulings.{IsClean}
use Rattle.cl_native_sound.proofs.Coming.{ComesTo, ends_as}
use Rattle.cl_native_sound.proofs.Limits.{int_limits, uint_limits, bool_limits, digest_limits, place_limits, limits, first_limits, equal_limits, list_limits, append_limits, concat_limits, merge_limits, element_limits, shift_limits, slice_limits, replace_limits}
use Rattle.cl_native_sound.proofs.Numbers.{number_type, bool_in, left_in, subtracted_in, two_in, one_in, pair_in, alone_in, compared_in}
use Rattle.cl_native_sound.proofs.NumberRows.{number_row_in, compare_row_in, xor_in}
use Rattle.cl_native_sound.proofs.ValueRows.{to_int_in, to_uint_in, not_in, equal_in, hash_in, some_in, ok_in, err_in, optional_test, response_test, default_ends, part_ends, err_part_ends}
use Rattle.cl_native_sound.proofs.EntryRows.{len_in, element_in, index_in, made_list_in, append_in, concat_in}
use Rattle.cl_native_sound.proofs.LaterRows.{content_in, joined_in, complement_in, shift_in, slice_in, replace_in, consensus_in}
use Rattle.cl_native_sound.proofs.Tuples.{merge_in}

-- ---- how many arguments there are

with_some : (P : List PlainType → List Tree → Type 0) (ts : List PlainType) (vs : List Tree) → takes (OrMore 1) (length ts) ≡ true → AreIn vs ts → ((t : PlainType) (us : List PlainType) (v : Tree) (ws : List Tree) → IsIn v t → AreIn ws us → P (t ∷ us) (v ∷ ws)) → P ts vs
with_some P [] vs c is p = absurd cc
with_some P (t ∷ ts) [] c is p = absurd is
with_some P (t ∷ ts) (v ∷ vs) c is p = p t ts v vs is.0 is.1

with_one : (P : List PlainType → List Tree → Type 0) (ts : List PlainType) (vs : List Tree) → takes (Exact 1) (length ts) ≡ true → AreIn vs ts → ((t : PlainType) (v : Tree) → IsIn v t → P (t ∷ []) (v ∷ [])) → P ts vs
with_one P [] vs c is p = absurd cc
with_one P (t ∷ []) [] c is p = absurd is
with_one P (t ∷ []) (v ∷ []) c is p = p t v is.0
with_one P (t ∷ []) (v ∷ w ∷ vs) c is p = absurd is.1
with_one P (t ∷ u ∷ ts) vs c is p = absurd (omega (arith, eqb-true (suc (suc (length ts))) 1 c))

with_two : (P : List PlainType → List Tree → Type 0) (ts : List PlainType) (vs : List Tree) → takes (Exact 2) (length ts) ≡ true → AreIn vs ts → ((t u : PlainType) (v w : Tree) → IsIn v t → IsIn w u → P (t ∷ u ∷ []) (v ∷ w ∷ [])) → P ts vs
with_two P [] vs c is p = absurd cc
with_two P (t ∷ []) vs c is p = absurd (omega (arith, eqb-true 1 2 c))
with_two P (t ∷ u ∷ []) [] c is p = absurd is
with_two P (t ∷ u ∷ []) (v ∷ []) c is p = absurd is.1
with_two P (t ∷ u ∷ []) (v ∷ w ∷ []) c is p = p t u v w is.0 is.1.0
with_two P (t ∷ u ∷ []) (v ∷ w ∷ x ∷ vs) c is p = absurd is.1.1
with_two P (t ∷ u ∷ s ∷ ts) vs c is p = absurd (omega (arith, eqb-true (suc (suc (suc (length ts)))) 2 c))

with_three : (P : List PlainType → List Tree → Type 0) (ts : List PlainType) (vs : List Tree) → takes (Exact 3) (length ts) ≡ true → AreIn vs ts → ((t u s : PlainType) (v w x : Tree) → IsIn v t → IsIn w u → IsIn x s → P (t ∷ u ∷ s ∷ []) (v ∷ w ∷ x ∷ [])) → P ts vs
with_three P [] vs c is p = absurd cc
with_three P (t ∷ []) vs c is p = absurd (omega (arith, eqb-true 1 3 c))
with_three P (t ∷ u ∷ []) vs c is p = absurd (omega (arith, eqb-true 2 3 c))
with_three P (t ∷ u ∷ s ∷ []) [] c is p = absurd is
with_three P (t ∷ u ∷ s ∷ []) (v ∷ []) c is p = absurd is.1
with_three P (t ∷ u ∷ s ∷ []) (v ∷ w ∷ []) c is p = absurd is.1.1
with_three P (t ∷ u ∷ s ∷ []) (v ∷ w ∷ x ∷ []) c is p = p t u s v w x is.0 is.1.0 is.1.1.0
with_three P (t ∷ u ∷ s ∷ []) (v ∷ w ∷ x ∷ y ∷ vs) c is p = absurd is.1.1.1
with_three P (t ∷ u ∷ s ∷ r ∷ ts) vs c is p = absurd (omega (arith, eqb-true (suc (suc (suc (suc (length ts))))) 3 c))

with_one_of : (P : List PlainType → List Tree → Type 0) (ts : List PlainType) (vs : List Tree) → takes (Exact 1) (length ts) ≡ true → AreOf vs ts → ((t : PlainType) (v : Tree) → IsOf v t → P (t ∷ []) (v ∷ [])) → P ts vs
with_one_of P ts vs c is p = with_one (λ ts vs. AreOf vs ts → P ts vs) ts vs c (are_in vs ts is) (λ t v i j. p t v j.0) is

with_two_of : (P : List PlainType → List Tree → Type 0) (ts : List PlainType) (vs : List Tree) → takes (Exact 2) (length ts) ≡ true → AreOf vs ts → ((t u : PlainType) (v w : Tree) → IsOf v t → IsOf w u → P (t ∷ u ∷ []) (v ∷ w ∷ [])) → P ts vs
with_two_of P ts vs c is p = with_two (λ ts vs. AreOf vs ts → P ts vs) ts vs c (are_in vs ts is) (λ t u v w i j k. p t u v w k.0 k.1.0) is

-- ---- so each native ends as its row says

abbrev Ends : Native → List PlainType → List Tree → Type 0
Ends n ts vs = IsClean (native_type n ts) → EndsAs (may_fail n) (may_panic n) (native_type n ts).type (native_value n vs)

ends : (n : Native) (ts : List PlainType) (vs : List Tree) → IsLimited (native_type n ts).type → ComesTo (may_fail n) (may_panic n) (native_type n ts).type (native_value n vs) → EndsAs (may_fail n) (may_panic n) (native_type n ts).type (native_value n vs)
ends n ts vs = ends_as (may_fail n) (may_panic n) (native_type n ts).type (native_value n vs)

pub native_ends : (n : Native) (ts : List PlainType) (vs : List Tree) → takes (row_of (OnValues n)).arity (length ts) ≡ true → AreOf vs ts → Ends n ts vs
unfolding native_type native_value
native_ends Add ts vs k is = with_some (Ends Add) ts vs k (are_in vs ts is) (λ t us v ws i js c. ends Add (t ∷ us) (v ∷ ws) (first_limits (t ∷ us) c) (number_row_in true (from_left sum) (t ∷ us) (v ∷ ws) (left_in sum (length (t ∷ us))) (omega arith) (i, js) c))
native_ends Subtract ts vs k is = with_some (Ends Subtract) ts vs k (are_in vs ts is) (λ t us v ws i js c. ends Subtract (t ∷ us) (v ∷ ws) (first_limits (t ∷ us) c) (number_row_in true subtracted (t ∷ us) (v ∷ ws) (subtracted_in (length (t ∷ us))) (omega arith) (i, js) c))
native_ends Multiply ts vs k is = with_some (Ends Multiply) ts vs k (are_in vs ts is) (λ t us v ws i js c. ends Multiply (t ∷ us) (v ∷ ws) (first_limits (t ∷ us) c) (number_row_in true (from_left product) (t ∷ us) (v ∷ ws) (left_in product (length (t ∷ us))) (omega arith) (i, js) c))
native_ends Divide ts vs k is = with_some (Ends Divide) ts vs k (are_in vs ts is) (λ t us v ws i js c. ends Divide (t ∷ us) (v ∷ ws) (first_limits (t ∷ us) c) (number_row_in true (from_left quotient) (t ∷ us) (v ∷ ws) (left_in quotient (length (t ∷ us))) (omega arith) (i, js) c))
native_ends Modulo ts vs k is = with_two (Ends Modulo) ts vs k (are_in vs ts is) (λ t u v w i j c. ends Modulo (t ∷ u ∷ []) (v ∷ w ∷ []) (first_limits (t ∷ u ∷ []) c) (number_row_in true (of_two (pair_value remainder)) (t ∷ u ∷ []) (v ∷ w ∷ []) (two_in true number_type (pair_value remainder) (pair_in remainder)) (omega arith) (i, (j, tt)) c))
native_ends Power ts vs k is = with_two (Ends Power) ts vs k (are_in vs ts is) (λ t u v w i j c. ends Power (t ∷ u ∷ []) (v ∷ w ∷ []) (first_limits (t ∷ u ∷ []) c) (number_row_in true (of_two (pair_value power)) (t ∷ u ∷ []) (v ∷ w ∷ []) (two_in true number_type (pair_value power) (pair_in power)) (omega arith) (i, (j, tt)) c))
native_ends Xor ts vs k is = with_two (Ends Xor) ts vs k (are_in vs ts is) (λ t u v w i j c. ends Xor (t ∷ u ∷ []) (v ∷ w ∷ []) (first_limits (t ∷ u ∷ []) c) (number_row_in false (of_two xor_value) (t ∷ u ∷ []) (v ∷ w ∷ []) (two_in false number_type xor_value xor_in) (omega arith) (i, (j, tt)) c))
native_ends SquareRoot ts vs k is = with_one (Ends SquareRoot) ts vs k (are_in vs ts is) (λ t v i c. ends SquareRoot (t ∷ []) (v ∷ []) (first_limits (t ∷ []) c) (number_row_in true (of_one root_value) (t ∷ []) (v ∷ []) (one_in true number_type root_value (alone_in root_of)) (omega arith) (i, tt) c))
native_ends Log2 ts vs k is = with_one (Ends Log2) ts vs k (are_in vs ts is) (λ t v i c. ends Log2 (t ∷ []) (v ∷ []) (first_limits (t ∷ []) c) (number_row_in true (of_one log2_value) (t ∷ []) (v ∷ []) (one_in true number_type log2_value (alone_in log2_of)) (omega arith) (i, tt) c))
native_ends ToInt ts vs k is = with_one (Ends ToInt) ts vs k (are_in vs ts is) (λ t v i c. ends ToInt (t ∷ []) (v ∷ []) int_limits (to_int_in t v i c))
native_ends ToUint ts vs k is = with_one (Ends ToUint) ts vs k (are_in vs ts is) (λ t v i c. ends ToUint (t ∷ []) (v ∷ []) uint_limits (to_uint_in t v i c))
native_ends Not ts vs k is = with_one (Ends Not) ts vs k (are_in vs ts is) (λ t v i c. ends Not (t ∷ []) (v ∷ []) bool_limits (not_in t v i c))
native_ends Less ts vs k is = with_two (Ends Less) ts vs k (are_in vs ts is) (λ t u v w i j c. ends Less (t ∷ u ∷ []) (v ∷ w ∷ []) bool_limits (compare_row_in (of_two (comparison int_lt)) (t ∷ u ∷ []) (v ∷ w ∷ []) (two_in false (λ kind. BoolType) (comparison int_lt) (compared_in int_lt)) (omega arith) (i, (j, tt)) c))
native_ends AtMost ts vs k is = with_two (Ends AtMost) ts vs k (are_in vs ts is) (λ t u v w i j c. ends AtMost (t ∷ u ∷ []) (v ∷ w ∷ []) bool_limits (compare_row_in (of_two (comparison int_le)) (t ∷ u ∷ []) (v ∷ w ∷ []) (two_in false (λ kind. BoolType) (comparison int_le) (compared_in int_le)) (omega arith) (i, (j, tt)) c))
native_ends Greater ts vs k is = with_two (Ends Greater) ts vs k (are_in vs ts is) (λ t u v w i j c. ends Greater (t ∷ u ∷ []) (v ∷ w ∷ []) bool_limits (compare_row_in (of_two (comparison (λ x y. int_lt y x))) (t ∷ u ∷ []) (v ∷ w ∷ []) (two_in false (λ kind. BoolType) (comparison (λ x y. int_lt y x)) (compared_in (λ x y. int_lt y x))) (omega arith) (i, (j, tt)) c))
native_ends AtLeast ts vs k is = with_two (Ends AtLeast) ts vs k (are_in vs ts is) (λ t u v w i j c. ends AtLeast (t ∷ u ∷ []) (v ∷ w ∷ []) bool_limits (compare_row_in (of_two (comparison (λ x y. int_le y x))) (t ∷ u ∷ []) (v ∷ w ∷ []) (two_in false (λ kind. BoolType) (comparison (λ x y. int_le y x)) (compared_in (λ x y. int_le y x))) (omega arith) (i, (j, tt)) c))
native_ends Same ts vs k is = with_some (Ends Same) ts vs k (are_in vs ts is) (λ t us v ws i js c. ends Same (t ∷ us) (v ∷ ws) (equal_limits (t ∷ us) c) (equal_in (t ∷ us) (v ∷ ws) (omega arith) (i, js) c))
native_ends Sha256 ts vs k is = with_one (Ends Sha256) ts vs k (are_in vs ts is) (λ t v i c. ends Sha256 (t ∷ []) (v ∷ []) (digest_limits 32 (omega arith)) (hash_in sha256 32 hash_256 t v i c))
native_ends Sha512Of256 ts vs k is = with_one (Ends Sha512Of256) ts vs k (are_in vs ts is) (λ t v i c. ends Sha512Of256 (t ∷ []) (v ∷ []) (digest_limits 32 (omega arith)) (hash_in sha512_256 32 hash_512_256 t v i c))
native_ends Sha512 ts vs k is = with_one (Ends Sha512) ts vs k (are_in vs ts is) (λ t v i c. ends Sha512 (t ∷ []) (v ∷ []) (digest_limits 64 (omega arith)) (hash_in sha512 64 hash_512 t v i c))
native_ends MakeSome ts vs k is = with_one (Ends MakeSome) ts vs k (are_in vs ts is) (λ t v i c. ends MakeSome (t ∷ []) (v ∷ []) (limits (OptionalType t) c) (some_in t v i))
native_ends MakeOk ts vs k is = with_one (Ends MakeOk) ts vs k (are_in vs ts is) (λ t v i c. ends MakeOk (t ∷ []) (v ∷ []) (limits (ResponseType t NoType) c) (ok_in t NoType v i))
native_ends MakeErr ts vs k is = with_one (Ends MakeErr) ts vs k (are_in vs ts is) (λ t v i c. ends MakeErr (t ∷ []) (v ∷ []) (limits (ResponseType NoType t) c) (err_in NoType t v i))
native_ends IsSome ts vs k is = with_one (Ends IsSome) ts vs k (are_in vs ts is) (λ t v i c. ends IsSome (t ∷ []) (v ∷ []) bool_limits (optional_test is_some (bool_in false) (λ w. bool_in true) t v i c))
native_ends IsNone ts vs k is = with_one (Ends IsNone) ts vs k (are_in vs ts is) (λ t v i c. ends IsNone (t ∷ []) (v ∷ []) bool_limits (optional_test is_none (bool_in true) (λ w. bool_in false) t v i c))
native_ends IsOk ts vs k is = with_one (Ends IsOk) ts vs k (are_in vs ts is) (λ t v i c. ends IsOk (t ∷ []) (v ∷ []) bool_limits (response_test is_ok (λ w. bool_in true) (λ w. bool_in false) t v i c))
native_ends IsErr ts vs k is = with_one (Ends IsErr) ts vs k (are_in vs ts is) (λ t v i c. ends IsErr (t ∷ []) (v ∷ []) bool_limits (response_test is_err (λ w. bool_in false) (λ w. bool_in true) t v i c))
native_ends DefaultTo ts vs k is = with_two_of (Ends DefaultTo) ts vs k is default_ends
native_ends UnwrapPanic ts vs k is = with_one_of (Ends UnwrapPanic) ts vs k is part_ends
native_ends UnwrapErrPanic ts vs k is = with_one_of (Ends UnwrapErrPanic) ts vs k is err_part_ends
native_ends MakeList ts vs k is = λ c. ends MakeList ts vs (list_limits ts c) (made_list_in ts vs (are_in vs ts is) c)
native_ends Merge ts vs k is = with_two (Ends Merge) ts vs k (are_in vs ts is) (λ t u v w i j c. ends Merge (t ∷ u ∷ []) (v ∷ w ∷ []) (merge_limits t u c) (merge_in t u v w i j c))
native_ends Append ts vs k is = with_two (Ends Append) ts vs k (are_in vs ts is) (λ t u v w i j c. ends Append (t ∷ u ∷ []) (v ∷ w ∷ []) (append_limits t u c) (append_in t u v w i j c))
native_ends Concat ts vs k is = with_two (Ends Concat) ts vs k (are_in vs ts is) (λ t u v w i j c. ends Concat (t ∷ u ∷ []) (v ∷ w ∷ []) (concat_limits t u c) (concat_in t u v w i j c))
native_ends Len ts vs k is = with_one_of (Ends Len) ts vs k is (λ t v i c. ends Len (t ∷ []) (v ∷ []) uint_limits (len_in t v i.valid.size (is_in v t i) c))
native_ends ElementAt ts vs k is = with_two (Ends ElementAt) ts vs k (are_in vs ts is) (λ t u v w i j c. ends ElementAt (t ∷ u ∷ []) (v ∷ w ∷ []) (element_limits t u c) (element_in t u v w i j c))
native_ends IndexOf ts vs k is = with_two_of (Ends IndexOf) ts vs k is (λ t u v w i j c. ends IndexOf (t ∷ u ∷ []) (v ∷ w ∷ []) place_limits (index_in t u v w i.valid.size (is_in v t i) c))
native_ends ContentLess ts vs k is = with_two (Ends ContentLess) ts vs k (are_in vs ts is) (λ t u v w i j c. ends ContentLess (t ∷ u ∷ []) (v ∷ w ∷ []) bool_limits (content_in is_lt t u v w i j c))
native_ends ContentAtMost ts vs k is = with_two (Ends ContentAtMost) ts vs k (are_in vs ts is) (λ t u v w i j c. ends ContentAtMost (t ∷ u ∷ []) (v ∷ w ∷ []) bool_limits (content_in is_le t u v w i j c))
native_ends ContentGreater ts vs k is = with_two (Ends ContentGreater) ts vs k (are_in vs ts is) (λ t u v w i j c. ends ContentGreater (t ∷ u ∷ []) (v ∷ w ∷ []) bool_limits (content_in is_gt t u v w i j c))
native_ends ContentAtLeast ts vs k is = with_two (Ends ContentAtLeast) ts vs k (are_in vs ts is) (λ t u v w i j c. ends ContentAtLeast (t ∷ u ∷ []) (v ∷ w ∷ []) bool_limits (content_in is_ge t u v w i j c))
native_ends BitAnd ts vs k is = with_some (Ends BitAnd) ts vs k (are_in vs ts is) (λ t us v ws i js c. ends BitAnd (t ∷ us) (v ∷ ws) (first_limits (t ∷ us) c) (number_row_in false (joined_by conjunction) (t ∷ us) (v ∷ ws) (joined_in conjunction conjunction_fits (length (t ∷ us))) (omega arith) (i, js) c))
native_ends BitOr ts vs k is = with_some (Ends BitOr) ts vs k (are_in vs ts is) (λ t us v ws i js c. ends BitOr (t ∷ us) (v ∷ ws) (first_limits (t ∷ us) c) (number_row_in false (joined_by disjunction) (t ∷ us) (v ∷ ws) (joined_in disjunction disjunction_fits (length (t ∷ us))) (omega arith) (i, js) c))
native_ends BitXor ts vs k is = with_some (Ends BitXor) ts vs k (are_in vs ts is) (λ t us v ws i js c. ends BitXor (t ∷ us) (v ∷ ws) (first_limits (t ∷ us) c) (number_row_in false (joined_by exclusive_or) (t ∷ us) (v ∷ ws) (joined_in exclusive_or xor_fits (length (t ∷ us))) (omega arith) (i, js) c))
native_ends BitNot ts vs k is = with_one (Ends BitNot) ts vs k (are_in vs ts is) (λ t v i c. ends BitNot (t ∷ []) (v ∷ []) (first_limits (t ∷ []) c) (number_row_in false (of_one complement_value) (t ∷ []) (v ∷ []) (one_in false number_type complement_value complement_in) (omega arith) (i, tt) c))
native_ends ShiftLeft ts vs k is = with_two (Ends ShiftLeft) ts vs k (are_in vs ts is) (λ t u v w i j c. ends ShiftLeft (t ∷ u ∷ []) (v ∷ w ∷ []) (shift_limits t u c) (shift_in shifted_left left_fits t u v w i j c))
native_ends ShiftRight ts vs k is = with_two (Ends ShiftRight) ts vs k (are_in vs ts is) (λ t u v w i j c. ends ShiftRight (t ∷ u ∷ []) (v ∷ w ∷ []) (shift_limits t u c) (shift_in shifted_right right_fits t u v w i j c))
native_ends Slice ts vs k is = with_three (Ends Slice) ts vs k (are_in vs ts is) (λ t u s v w x i j l c. ends Slice (t ∷ u ∷ s ∷ []) (v ∷ w ∷ x ∷ []) (slice_limits t u s c) (slice_in t u s v w x i j l c))
native_ends ReplaceAt ts vs k is = with_three (Ends ReplaceAt) ts vs k (are_in vs ts is) (λ t u s v w x i j l c. ends ReplaceAt (t ∷ u ∷ s ∷ []) (v ∷ w ∷ x ∷ []) (replace_limits t u s c) (replace_in t u s v w x i j l c))
native_ends EntryAt ts vs k is = with_two (Ends EntryAt) ts vs k (are_in vs ts is) (λ t u v w i j c. ends EntryAt (t ∷ u ∷ []) (v ∷ w ∷ []) (element_limits t u c) (element_in t u v w i j c))
native_ends PlaceOf ts vs k is = with_two_of (Ends PlaceOf) ts vs k is (λ t u v w i j c. ends PlaceOf (t ∷ u ∷ []) (v ∷ w ∷ []) place_limits (index_in t u v w i.valid.size (is_in v t i) c))
native_ends ToConsensusBuff ts vs k is = with_one_of (Ends ToConsensusBuff) ts vs k is (λ t v i c. ends ToConsensusBuff (t ∷ []) (v ∷ []) (limits (OptionalType (BuffType (type_size t))) c) (consensus_in t v i))

-- and what it gives is no larger than the row's type
pub native_small : (n : Native) (ts : List PlainType) (vs : List Tree) (v : Tree) → AreFit n ts vs → native_value n vs ≡ Gives v → size_of v ≤ type_size (native_type n ts).type
native_small n ts vs v fit e = no_larger v (native_type n ts).type (subst (EndsAs (may_fail n) (may_panic n) (native_type n ts).type) e (native_ends n ts vs fit.count fit.typed fit.clean))
