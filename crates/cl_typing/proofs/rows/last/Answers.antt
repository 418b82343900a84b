use Rattle.std.proofs.Common.{sym, ◌∙◌}
use Rattle.cl_typing.proofs.LastTypes.{unused_next, unused_stop, unused_end}
use Rattle.cl_typing.proofs.rows.last.Goals as goal

pub returns-then-is_response : goal.returns-then-is_response
returns-then-is_response c = unused_stop (λ t. t.now) c.in-Some.last.now c.args.types.now c.in-Some.others.now c.in-Some.ensures.cases.0 c.loop-ty.ty-index c.ty-item.result c.loop-ty-test.true (sym c.ty-item.is) (sym c.is_response.ensures ∙ c.if-is_response.true) c.loop-ty.invariant

pub returns : goal.returns
returns c = unused_end (λ t. t.now) c.in-Some.last.now c.args.types.now c.in-Some.others.now c.in-Some.ensures.cases.0 c.loop-ty.ty-index c.itself.result c.loop-ty-test.false c.loop-ty.invariant c.itself.ensures

pub loop-ty-preserved : goal.loop-ty-preserved
loop-ty-preserved c = unused_next (λ t. t.now) c.in-Some.last.now c.args.types.now c.in-Some.others.now c.in-Some.ensures.cases.0 c.loop-ty.ty-index c.ty-item.result c.loop-ty-test.true (sym c.ty-item.is) (sym c.is_response.ensures ∙ c.if-is_response.false) c.loop-ty.invariant
