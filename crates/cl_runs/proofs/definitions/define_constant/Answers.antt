use Rattle.std.proofs.Common.{◌∙◌, refl, sym, ap}
use Rattle.std.proofs.lemmas.Result.{err_from_is_err_and}
use Rattle.cl_frames.specs.Watching.{watched}
use Rattle.cl_frames.proofs.WatchLaws.{then_gave, charge_within}
use Rattle.cl_frames.specs.Deploys.{contract_so_far}
use Rattle.cl_types.specs.contracts.name.NamePartialEq.TheImpl.{eq-value}
use Rattle.cl_frames.proofs.WatchSteps.{pay_fails, part_fails, memory_fails}
use Rattle.cl_frames.proofs.Defining as Defining
use Rattle.indexmap.proofs.CallerLemmas.{insert_entry-new}
use Rattle.cl_contracts.proofs.Places.{value_under}
use Rattle.cl_runs.proofs.definitions.define_constant.Goals as goal

pub returns-in_err-value-clause-meant : goal.returns-in_err-value-clause-meant
returns-in_err-value-clause-meant g c at =
    part_fails _ _ c.in_err-value.field-0.0 _ _ _ _ _ _ _ _ (Defining.hand c.args.deploying.now _ _ _ (err_from_is_err_and c.from_residual.result c.from_residual.ensures.1)) (ap (watched _ _ _) (Defining.constant_at _ _ _ _ _ _)) c.in_err-value.ensures.meant

pub returns-in_err-pay_for-clause-meant : goal.returns-in_err-pay_for-clause-meant
returns-in_err-pay_for-clause-meant g c at =
    pay_fails _ _ c.in_err-pay_for.field-0.0 _ _ _ _ _ _ _ _ (Defining.hand c.args.deploying.now _ _ _ (err_from_is_err_and c.from_residual-in_err-pay_for.result c.from_residual-in_err-pay_for.ensures.1)) (ap (watched _ _ _) (Defining.constant_at _ _ _ _ _ _) ∙ then_gave _ _ _ _ _ _ _ _ _ c.in_ok-value.ensures.meant) c.in_err-pay_for.ensures

pub returns-clause-meant : goal.returns-clause-meant
returns-clause-meant g c at =
    ap (watched _ _ _) (Defining.constant_at _ _ _ _ _ _) ∙ then_gave _ _ _ _ _ _ _ _ _ c.in_ok-value.ensures.meant
    ∙ Defining.charged_gives_seen _ _ _ _ _ _ _ _ _ _ c.in_ok-pay_for.ensures
    (ap (contract_so_far c.args.deploying.now) (sym (c.in_ok-insert.ensures.entries ∙ insert_entry-new eq-value.it c.args.constants.now c.args.name.now c.in_ok-value.value (value_under c.args.name.now c.args.constants.now.entries ∙ c.requires.new)))) refl

pub returns-in_err-insert-clause-meant : goal.returns-in_err-insert-clause-meant
returns-in_err-insert-clause-meant g c at =
    memory_fails _ _ _ _ _ _ _ _ (Defining.hand c.args.deploying.now _ _ _ (err_from_is_err_and c.from_residual-in_err-insert.result c.from_residual-in_err-insert.ensures.1)) (ap (watched _ _ _) (Defining.constant_at _ _ _ _ _ _) ∙ then_gave _ _ _ _ _ _ _ _ _ c.in_ok-value.ensures.meant ∙ charge_within _ _ _ _ _ _ _ c.in_ok-pay_for.ensures)
