use Rattle.std.proofs.Common.{map}
use Rattle.cl_rules.specs.NativeTypes.{err_row}
use Rattle.cl_judging.proofs.ControlRows.{throwing_at}
use Rattle.cl_judging.proofs.controls.unwrapped_err.Goals as goal

pub returns-in-Some : goal.returns-in-Some
returns-in-Some c = throwing_at (err_row) (map (λ t. t.now) c.args.types.now) _ _ c.err_part.result c.in-Some.ensures.some c.err_part.ensures
