use Rattle.std.proofs.Common.{Err, map, sym, ap, ◌∙◌}
use Rattle.std.specs.Prelude.{◌&&◌}
use Rattle.cl_types.specs.Types.{PlainType}
use Rattle.cl_types.specs.TypeKinds.{is_sequence}
use Rattle.cl_types.specs.declared.fault.Fault.TheVariants.{Refused}
use Rattle.cl_sexpr.specs.declared.rule.Rule.TheVariants.{ArgumentKind}
use Rattle.cl_rules.specs.CallShapes.{admits_first}
use Rattle.cl_typing.proofs.IterationRows.{folds_alike, fold_wrong, fold_unlubbed, fold_lubbed}
use Rattle.cl_typing.proofs.iterations.fold_by_function.Goals as goal

pub returns-then-not-may_fold : goal.returns-then-not-may_fold
returns-then-not-may_fold c =
    let ps = map (λ p. p.1) c.args.params.now in
    let is = ap (λ (e : PlainType). is_sequence c.args.s.now && admits_first ps e) (sym c.in_ok-entry.ensures) ∙ sym c.may_fold.ensures in
    folds_alike c.args.params.now c.args.returns.now c.args.s.now c.args.initial.now (Err (Refused ArgumentKind)) (fold_wrong ps c.args.returns.now c.args.s.now c.args.initial.now (is ∙ c.if-not-may_fold.true))

pub returns-in-Ok : goal.returns-in-Ok
returns-in-Ok c =
    let ps = map (λ p. p.1) c.args.params.now in
    let is = ap (λ (e : PlainType). is_sequence c.args.s.now && admits_first ps e) (sym c.in_ok-entry.ensures) ∙ sym c.may_fold.ensures in
    folds_alike c.args.params.now c.args.returns.now c.args.s.now c.args.initial.now c.where_kind.result (fold_lubbed ps c.args.returns.now c.args.s.now c.args.initial.now (is ∙ c.if-not-may_fold.false) c.in-Ok.ty c.admits_second-holds.result c.where_kind.result c.in-Ok.ensures.joined c.admits_second-holds.ensures c.where_kind.ensures)

pub returns : goal.returns
returns c =
    let ps = map (λ p. p.1) c.args.params.now in
    let is = ap (λ (e : PlainType). is_sequence c.args.s.now && admits_first ps e) (sym c.in_ok-entry.ensures) ∙ sym c.may_fold.ensures in
    folds_alike c.args.params.now c.args.returns.now c.args.s.now c.args.initial.now (Err c.in-Err.fault) (fold_unlubbed ps c.args.returns.now c.args.s.now c.args.initial.now (is ∙ c.if-not-may_fold.false) c.in-Err.fault c.in-Err.ensures.joined)
