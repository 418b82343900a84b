use Rattle.std.proofs.Common.{map}
use Rattle.cl_types.specs.Types.{BoolType}
use Rattle.cl_rules.specs.NativeTypes.{of_kind}
use Rattle.cl_types.specs.TypeKinds.{is_bool}
use Rattle.cl_judging.proofs.ControlRows.{throwing_at}
use Rattle.cl_judging.proofs.controls.asserts.Goals as goal

pub returns-in-Some : goal.returns-in-Some
returns-in-Some c = throwing_at (λ t. of_kind (is_bool t) BoolType) (map (λ t. t.now) c.args.types.now) _ _ c.of_kind.result c.in-Some.ensures.some (rw c.is_bool.ensures at c.of_kind.ensures)
