use Rattle.std.proofs.Common.{List, None, sym, subst, arith}
use Rattle.cl_types.specs.Types.{PlainType}
use Rattle.cl_rules.specs.CallShapes.{fold_row, fold_verdict}
use Rattle.cl_code.specs.Typed.{type_of}
use Rattle.cl_typing.specs.declared.concluding.Checked.{Checked}
use Rattle.cl_typing.specs.Verdicts.{ConcludesAs}
use Rattle.cl_typing.specs.Uses.{RulesUse, Iterates}
use Rattle.cl_typing.proofs.IterationRows.{two_items, fold_judged}
use Rattle.cl_typing.proofs.iterations.on_fold.Goals as goal

pub returns : goal.returns
returns c =
    let is = two_items c.args.parts.now c.sequence-item.result c.initial-item.result (omega (arith, c.in-len2.len_at_least, c.in-len2.len_below)) (sym c.sequence-item.is) (sym c.initial-item.is) in
    subst (λ (cs : List Checked). Iterates fold_verdict c.args.used.now cs c.conclude.result) (sym is)
    (fold_judged c.args.used.now c.use_height.result c.use_height.ensures c.fold_type-ruled.result c.conclude.result c.sequence-item.result c.initial-item.result
    (subst (λ (t : PlainType). RulesUse (λ u. fold_row u t (type_of c.initial-item.result.code)) c.args.used.now c.fold_type-ruled.result) c.result.ensures (subst (λ (t : PlainType). RulesUse (λ u. fold_row u c.result.result.now t) c.args.used.now c.fold_type-ruled.result) c.result-2.ensures c.fold_type-ruled.ensures))
    (subst (λ (cs : List Checked). ConcludesAs c.fold_type-ruled.result None c.use_height.result cs c.conclude.result) is c.conclude.ensures))
