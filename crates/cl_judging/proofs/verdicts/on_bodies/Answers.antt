use Rattle.std.proofs.Common.{◌∙◌, List, ap, map, subst}
use Rattle.cl_types.specs.Types.{PlainType}
use Rattle.cl_rules.specs.ControlShapes.{last_row}
use Rattle.cl_typing.specs.Verdicts.{Rules, types_at}
use Rattle.cl_judging.proofs.VerdictLaws.{let_judged}
use Rattle.cl_judging.proofs.verdicts.on_bodies.Goals as goal

pub returns : goal.returns
returns c own fs same = let_judged c.args.bindings c.args.parts.now c.last-ruled.result c.conclude.result (subst (λ (ts : List PlainType). Rules (last_row ts) c.last-ruled.result) (ap (map (λ t. t.now)) c.deref.ensures.value ∙ c.in_ok-types.ensures ∙ ap types_at c.behind.ensures) c.last-ruled.ensures) c.conclude.ensures own fs same
