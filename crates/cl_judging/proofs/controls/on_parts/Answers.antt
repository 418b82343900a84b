use Rattle.std.proofs.Common.{List, Option, ap, map, subst, ◌∙◌}
use Rattle.cl_types.specs.Types.{PlainType}
use Rattle.cl_typing.specs.Verdicts.{RulesWith, ConcludesAs}
use Rattle.cl_judging.specs.Controls.{own_of, parts_row}
use Rattle.cl_judging.proofs.ControlRows.{parts_judged}
use Rattle.cl_judging.proofs.controls.on_parts.Goals as goal

pub returns : goal.returns
returns c row count fs same =
    let types = ap (map (λ t. t.now)) c.deref-2.ensures.value ∙ c.in_ok-types.ensures in
    let own = c.in_ok-own.ensures ∙ ap (own_of c.args.native) (ap (map (λ t. t.now)) c.deref.ensures.value ∙ c.in_ok-types.ensures) in
    parts_judged c.args.native c.args.parts.now c.parts_type-ruled.result c.conclude.result
    (subst (λ (ts : List PlainType). RulesWith (own_of c.args.native ts) (parts_row c.args.native ts) c.parts_type-ruled.result) types c.parts_type-ruled.ensures)
    (subst (λ (o : Option PlainType). ConcludesAs c.parts_type-ruled.result o 0 c.args.parts.now c.conclude.result) own c.conclude.ensures)
    row count fs same
