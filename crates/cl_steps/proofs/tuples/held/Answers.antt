use Rattle.std.proofs.Common.{arith}
use Rattle.cl_values.specs.Computed.{Gives}
use Rattle.cl_frames.proofs.Laws
use Rattle.std.proofs.Common.{◌≤◌}
use Rattle.cl_steps.proofs.tuples.held.Goals as goal

pub returns-then-length-most : goal.returns-then-length-most
returns-then-length-most c =
    let within : c.args.length ≤ c.args.most = omega arith in
    Laws.held_some c.args.length c.args.most c.args.value _ within (c.computed.ensures (Gives (Rattle.cl_values.specs.Tree.SomeV c.args.value)) c.some.ensures)
