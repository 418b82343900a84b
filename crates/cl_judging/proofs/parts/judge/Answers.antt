use Rattle.std.proofs.Common.{sym, subst}
use Rattle.cl_judging.specs.declared.node.Evaluated.{Evaluated}
use Rattle.cl_judging.specs.Walking.{Judges}
use Rattle.cl_judging.proofs.parts.judge.Goals as goal

pub returns-in-Values : goal.returns-in-Values
returns-in-Values c = subst (λ (n : Evaluated). Judges n c.args.parts.now c.on_native.result) (sym c.in-Values.is) c.on_native.ensures

pub returns-in-Parts : goal.returns-in-Parts
returns-in-Parts c = subst (λ (n : Evaluated). Judges n c.args.parts.now c.on_parts.result) (sym c.in-Parts.is) c.on_parts.ensures
