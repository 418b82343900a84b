use Rattle.std.proofs.Common.{◌≤◌, arith}
use Rattle.cl_values.specs.Computed.{Gives}
use Rattle.cl_values.specs.Tree.{SomeV}
use Rattle.cl_audit_steps.proofs.ValueLaws.{held_some}
use Rattle.cl_audit_steps.proofs.values.some_within.Goals as goal

pub returns-then-length-most : goal.returns-then-length-most
returns-then-length-most c =
    let within : c.args.length ≤ c.args.most = omega arith in
    held_some c.args.length c.args.most c.args.value _ within (c.computed_last.ensures (Gives (SomeV c.args.value)) c.some.ensures)
