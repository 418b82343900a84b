use Rattle.std.proofs.Common.{sym, ap, ◌∙◌}
use Rattle.cl_meaning.specs.Limits.{limited}
use Rattle.cl_meaning.proofs.LimitLaws.{limited-stop}
use Rattle.cl_frames.specs.Seen.{scope}
use Rattle.cl_frames.proofs.Steps.{ends_so}
use Rattle.cl_frames.proofs.Laws
use Rattle.cl_steps.proofs.data.read_variable.Goals as goal

pub returns-in-Some : goal.returns-in-Some
returns-in-Some c =
    ends_so _ _ _ _ _ (ap (limited _ _) (Laws.variable_some (scope c.args.context.now c.args.names.now) c.args.name.now _ c.args.world.now.stack.top (sym c.in_ok-value.ensures ∙ c.in-Some.is))) (c.stands.ensures _)

pub returns-in-None : goal.returns-in-None
returns-in-None c =
    ap (limited _ _) (Laws.variable_none (scope c.args.context.now c.args.names.now) c.args.name.now c.args.world.now.stack.top (sym c.in_ok-value.ensures ∙ c.in-None.is)) ∙ limited-stop _ _ _ _
