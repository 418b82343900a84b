use Rattle.std.proofs.Common.{List, None, sym, subst, arith}
use Rattle.cl_types.specs.Types.{PlainType}
use Rattle.cl_rules.specs.CallShapes.{filter_row, filter_verdict}
use Rattle.cl_typing.specs.declared.concluding.Checked.{Checked}
use Rattle.cl_typing.specs.Verdicts.{ConcludesAs}
use Rattle.cl_typing.specs.Uses.{RulesUse, Iterates}
use Rattle.cl_typing.proofs.IterationRows.{one_item, filter_judged}
use Rattle.cl_typing.proofs.iterations.on_filter.Goals as goal

pub returns : goal.returns
returns c =
    let is = one_item c.args.parts.now c.part-item.result (omega (arith, c.in-len1.len_at_least, c.in-len1.len_below)) (sym c.part-item.is) in
    subst (λ (cs : List Checked). Iterates filter_verdict c.args.used.now cs c.conclude.result) (sym is)
    (filter_judged c.args.used.now c.use_height.result c.use_height.ensures c.filter_type-ruled.result c.conclude.result c.part-item.result
    (subst (λ (t : PlainType). RulesUse (λ u. filter_row u t) c.args.used.now c.filter_type-ruled.result) c.result.ensures c.filter_type-ruled.ensures)
    (subst (λ (cs : List Checked). ConcludesAs c.filter_type-ruled.result None c.use_height.result cs c.conclude.result) is c.conclude.ensures))
