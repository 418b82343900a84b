-- Rows of natives whose arguments are all evaluated and that aren't on values.
use Rattle.std.specs.Prelude.{List, [], ◌∷◌, Option, Some, None}
use Rattle.cl_types.specs.Types.{PlainType, NoType, UintType}
use Rattle.cl_rules.specs.NativeTypes.{Ruled, fine, if_kind, lubbed, one, two}
use Rattle.cl_types.specs.TypeKinds.{is_bool}
use Rattle.cl_rules.specs.Shapes.{stated, AUint, APrincipal}
use Rattle.cl_rules.specs.ControlShapes.{last_row, truth_row, asserts_row, unwrap_row, unwrap_err_row, try_row}
use Rattle.cl_rules.specs.DataShapes.{act_answer}
pub use Rattle.cl_typing.specs.Branches.{tried_of}
use Rattle.cl_code.specs.declared.op.PartsNative.{PartsNative}
use Rattle.cl_code.specs.declared.op.PartsNative.TheVariants.{If, Begin, And, Or, Asserts, Unwrap, UnwrapErr, Try, AsContract, Print, StxBalance, SendStx, BurnStx}

-- a condition and two branches
abbrev pub if_row : List PlainType → Ruled
if_row (t ∷ u ∷ v ∷ []) = if_kind (is_bool t) (lubbed u v)
if_row ts = fine NoType

abbrev pub parts_row : PartsNative → List PlainType → Ruled
parts_row If ts = if_row ts
parts_row Begin ts = last_row ts
parts_row And ts = truth_row ts
parts_row Or ts = truth_row ts
parts_row Asserts ts = two asserts_row ts
parts_row Unwrap ts = two unwrap_row ts
parts_row UnwrapErr ts = two unwrap_err_row ts
parts_row Try ts = one try_row ts
parts_row AsContract ts = one fine ts
parts_row Print ts = one fine ts
parts_row StxBalance ts = stated (APrincipal ∷ []) (fine UintType) ts
parts_row SendStx ts = stated (AUint ∷ APrincipal ∷ APrincipal ∷ []) (fine act_answer) ts
parts_row BurnStx ts = stated (AUint ∷ APrincipal ∷ []) (fine act_answer) ts

abbrev pub second_of : List PlainType → Option PlainType
second_of (t ∷ u ∷ []) = Some u
second_of ts = None

-- what the native throws itself
abbrev pub own_of : PartsNative → List PlainType → Option PlainType
own_of Asserts ts = second_of ts
own_of Unwrap ts = second_of ts
own_of UnwrapErr ts = second_of ts
own_of Try ts = tried_of ts
own_of native ts = None
