-- Each part of a type is lighter than the type.
use Rattle.std.specs.Prelude.{◌≡◌, ℕ, suc, zero, ◌+◌, ◌≤◌, ◌<◌, max, length, List, [], ◌∷◌}
use Rattle.std.proofs.Common.{arith, get_or}
use denote.Param.Weighed.{most}
use Rattle.cl_types.specs.declared.ty.TyKind.{TyKind}
use Rattle.cl_types.specs.declared.ty.TyKind.TheVariants.{NoType as NoKind, Int, Uint, Bool, Principal, Buff, Ascii, Utf8, List as ListKind, Tuple, Optional, Response}
use Rattle.cl_types.specs.declared.ty.Ty.TheDeep.{deep-TyKind}
use Rattle.cl_types.specs.declared.ty.Ty.TheShapes.{weighed-TyKind-Tuple-0-at-2}
use Rattle.cl_types.specs.Types.{PlainType, fields, weight_of, weights_of}
use Rattle.cl_types.specs.TypeView.{plain_of}

fields_most : (fs : List (List ℕ × PlainType)) → most (weighed-TyKind-Tuple-0-at-2.weight PlainType (λ t. weight_of t + 1)) fs ≤ weights_of (fields fs)
fields_most [] = omega arith
fields_most (f ∷ fs) = omega (arith, fields_most fs)

pub falls : (k : TyKind) → max (deep-TyKind k) 0 ≤ weight_of (plain_of k)
falls NoKind = omega arith
falls Int = omega arith
falls Uint = omega arith
falls Bool = omega arith
falls Principal = omega arith
falls (Buff n) = omega arith
falls (Ascii n) = omega arith
falls (Utf8 n) = omega arith
falls (ListKind n t) = omega arith
falls (Tuple fs) = omega (arith, fields_most fs.items)
falls (Optional t) = omega arith
falls (Response t e) = omega arith

pub field_falls : (fs : List (List ℕ × PlainType)) (i : ℕ) (f : List ℕ × PlainType) → i < length fs → f ≡ get_or fs i f → weight_of f.1 < weights_of (fields fs)
field_falls [] i f h at = absurd (omega (arith, h))
field_falls (g ∷ fs) zero f h at = rw at (omega arith)
field_falls (g ∷ fs) (suc i) f h at = omega (arith, field_falls fs i f (omega (arith, h)) at)
