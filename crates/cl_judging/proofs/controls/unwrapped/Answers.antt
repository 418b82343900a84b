use Rattle.std.proofs.Common.{map}
use Rattle.cl_rules.specs.NativeTypes.{part_row}
use Rattle.cl_judging.proofs.ControlRows.{throwing_at}
use Rattle.cl_judging.proofs.controls.unwrapped.Goals as goal

pub returns-in-Some : goal.returns-in-Some
returns-in-Some c = throwing_at (part_row) (map (λ t. t.now) c.args.types.now) _ _ c.part.result c.in-Some.ensures.some c.part.ensures
