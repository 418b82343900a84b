use Rattle.std.proofs.Common.{sym, ◌∙◌}
use Rattle.std.specs.Prelude.{◌||◌}
use Rattle.cl_rules.specs.Context.{same}
use Rattle.cl_judging.proofs.BoundPairs.{taken_bind}
use Rattle.cl_judging.proofs.scope.is_taken_after.Goals as goal

pub returns-then-is_taken : goal.returns-then-is_taken
returns-then-is_taken c = c.if-is_taken.true ∙ sym (taken_bind c.args.ctx.now c.args.scope.now.entries c.args.x.now c.args.y.now ∙ (λ i. (sym c.is_taken.ensures ∙ c.if-is_taken.true) i || same c.args.x.now c.args.y.now))

pub returns-else-is_taken : goal.returns-else-is_taken
returns-else-is_taken c = c.is_same.ensures ∙ sym (taken_bind c.args.ctx.now c.args.scope.now.entries c.args.x.now c.args.y.now ∙ (λ i. (sym c.is_taken.ensures ∙ c.if-is_taken.false) i || same c.args.x.now c.args.y.now))
