use Rattle.std.proofs.Common.{sym, subst}
use Rattle.cl_code.specs.declared.op.Iteration.{Iteration}
use Rattle.cl_judging.specs.Uses.{Iterates, iteration_verdict}
use Rattle.cl_judging.proofs.uses.on_iteration.Goals as goal

pub returns-in-Map : goal.returns-in-Map
returns-in-Map c = subst (λ (i : Iteration). Iterates (iteration_verdict i) c.args.usable.now c.args.parts.now c.on_map.result) (sym c.in-Map.is) c.on_map.ensures

pub returns-in-Filter : goal.returns-in-Filter
returns-in-Filter c = subst (λ (i : Iteration). Iterates (iteration_verdict i) c.args.usable.now c.args.parts.now c.on_filter.result) (sym c.in-Filter.is) c.on_filter.ensures

pub returns-in-Fold : goal.returns-in-Fold
returns-in-Fold c = subst (λ (i : Iteration). Iterates (iteration_verdict i) c.args.usable.now c.args.parts.now c.on_fold.result) (sym c.in-Fold.is) c.on_fold.ensures
