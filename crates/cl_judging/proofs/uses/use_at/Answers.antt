use Rattle.std.proofs.Common.{sym, subst}
use Rattle.std.specs.Prelude.{IfSome, IfNone}
use Rattle.cl_sexpr.specs.Tree.{Tree}
use Rattle.cl_judging.specs.Uses.{Applies, AppliesNothing}
use Rattle.cl_judging.proofs.uses.use_at.Goals as goal

pub returns-clause-some : goal.returns-clause-some
returns-clause-some c = subst (λ (e : Tree). IfSome c.use_of.result (λ u. Applies c.args.ctx.now e u.usable)) (sym c.in_ok-name.ensures.some) c.use_of.ensures.some

pub returns-clause-none : goal.returns-clause-none
returns-clause-none c = subst (λ (e : Tree). IfNone c.use_of.result (AppliesNothing c.args.ctx.now e)) (sym c.in_ok-name.ensures.some) c.use_of.ensures.none
