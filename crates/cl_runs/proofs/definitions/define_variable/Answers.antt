use Rattle.std.proofs.Common.{◌∙◌, refl, ap}
use Rattle.std.proofs.lemmas.Result.{err_from_is_err_and}
use Rattle.cl_state.specs.Stack.{Stack}
use Rattle.cl_frames.specs.Watching.{watched}
use Rattle.cl_frames.proofs.WatchLaws.{then_gave, charge_within}
use Rattle.cl_frames.specs.Deploys.{contract_so_far}
use Rattle.cl_frames.proofs.WatchSteps.{pay_fails, part_fails, memory_fails}
use Rattle.cl_frames.proofs.Defining as Defining
use Rattle.cl_runs.proofs.definitions.define_variable.Goals as goal

pub returns-in_err-value-clause-meant : goal.returns-in_err-value-clause-meant
returns-in_err-value-clause-meant g c type at =
    part_fails _ _ c.in_err-value.field-0.0 _ _ _ _ _ _ _ _ (Defining.hand c.args.deploying.now _ _ _ (err_from_is_err_and c.from_residual.result c.from_residual.ensures.1)) (ap (watched _ _ _) (Defining.variable_at _ _ _ _ _ type _)) c.in_err-value.ensures.meant

pub returns-in_err-pay_for-clause-meant : goal.returns-in_err-pay_for-clause-meant
returns-in_err-pay_for-clause-meant g c type at =
    pay_fails _ _ c.in_err-pay_for.field-0.0 _ _ _ _ _ _ _ _ (Defining.hand c.args.deploying.now _ _ _ (err_from_is_err_and c.from_residual-in_err-pay_for.result c.from_residual-in_err-pay_for.ensures.1)) (ap (watched _ _ _) (Defining.variable_at _ _ _ _ _ type _) ∙ then_gave _ _ _ _ _ _ _ _ _ c.in_ok-value.ensures.meant) c.in_err-pay_for.ensures

pub returns-clause-meant : goal.returns-clause-meant
returns-clause-meant g c type at =
    ap (watched _ _ _) (Defining.variable_at _ _ _ _ _ type _) ∙ then_gave _ _ _ _ _ _ _ _ _ c.in_ok-value.ensures.meant
    ∙ Defining.charged_gives_seen _ _ _ _ _ _ _ _ _ _ c.in_ok-pay_for.ensures refl
    (Defining.variable_there (contract_so_far c.args.deploying.now c.args.constants.now.entries) c.place_of.result.contract c.args.name.now c.place_of.result.name c.in_ok-value.value c.evaluate_top.new.world.stack.top _ c.place_of.ensures.contract c.place_of.ensures.name (ap (λ (w : Stack). w.top) c.in_ok-put_variable.ensures.done))

pub returns-in_err-put_variable-clause-meant : goal.returns-in_err-put_variable-clause-meant
returns-in_err-put_variable-clause-meant g c type at =
    memory_fails _ _ _ _ _ _ _ _ (Defining.hand c.args.deploying.now _ _ _ (err_from_is_err_and c.from_residual-in_err-put_variable.result c.from_residual-in_err-put_variable.ensures.1)) (ap (watched _ _ _) (Defining.variable_at _ _ _ _ _ type _) ∙ then_gave _ _ _ _ _ _ _ _ _ c.in_ok-value.ensures.meant ∙ charge_within _ _ _ _ _ _ _ c.in_ok-pay_for.ensures)
