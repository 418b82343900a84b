use Rattle.std.proofs.Common.{sym, ap, ◌∙◌}
use Rattle.cl_code.specs.declared.op.Applied.{Applied}
use Rattle.cl_footprint.specs.NodeUses.{uses_of_applied}
use Rattle.cl_footprint.specs.Gathering.{gathered, with_uses}
use Rattle.cl_footprint.proofs.walk.add_applied.Goals as goal

pub returns-in_ok-add_own-in-Function : goal.returns-in_ok-add_own-in-Function
returns-in_ok-add_own-in-Function c W touched written =
    c.in_ok-add_own-in-Function.ensures W touched written ∙ ap (λ (a : Applied). with_uses W c.args.own.now (uses_of_applied a) (gathered c.args.reached.now.keys touched written)) (sym c.in-Function.is)
