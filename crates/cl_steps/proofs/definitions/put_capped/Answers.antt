use Rattle.std.proofs.Common.{◌∙◌, refl, sym, ap, Some}
use Rattle.std.proofs.lemmas.Result.{err_from_is_err_and}
use Rattle.cl_state.specs.Stack.{Stack}
use Rattle.cl_meaning.specs.Limits.{limited}
use Rattle.cl_meaning.proofs.LimitLaws.{limited-stop}
use Rattle.cl_frames.specs.Deploys.{contract_so_far}
use Rattle.cl_frames.proofs.Steps.{pay_fails}
use Rattle.cl_frames.proofs.Defining as Defining
use Rattle.cl_steps.proofs.definitions.put_capped.Goals as goal

pub returns-in_err-pay_for-in-Some-clause-meant : goal.returns-in_err-pay_for-in-Some-clause-meant
returns-in_err-pay_for-in-Some-clause-meant c =
    pay_fails _ _ c.in_err-pay_for-in-Some.field-0.0 _ _ _ _ _ _ _ (Defining.hand c.args.deploying.now _ _ _ (err_from_is_err_and c.from_residual.result c.from_residual.ensures.1)) (ap (limited _ _) (Defining.cap_some _ _ _ _ _ (sym c.in-Some.is ∙ c.cap_of.ensures))) c.in_err-pay_for-in-Some.ensures

pub define_ft-requires : goal.define_ft-requires
define_ft-requires c = Defining.absent_there c.args.world.now.stack.top.fungibles _ _ _ _ c.place_of.ensures.contract c.place_of.ensures.name c.requires.new

pub returns-in_ok-define_ft-in-Some-clause-meant : goal.returns-in_ok-define_ft-in-Some-clause-meant
returns-in_ok-define_ft-in-Some-clause-meant c =
    ap (limited _ _) (Defining.cap_some _ _ _ _ _ (sym c.in-Some.is ∙ c.cap_of.ensures))
    ∙ Defining.charged_gives _ _ _ _ _ _ _ _ _ c.in_ok-pay_for-in-Some.ensures refl
    (Defining.fungible_there (contract_so_far c.args.deploying.now c.args.constants.now.entries) c.place_of.result.contract c.args.name.now c.place_of.result.name (Some c.in-Some.most) c.args.world.now.stack.top _ c.place_of.ensures.contract c.place_of.ensures.name (ap (λ (w : Stack). w.top) c.in_ok-define_ft-in-Some.ensures.done))

pub returns-in-None-clause-meant : goal.returns-in-None-clause-meant
returns-in-None-clause-meant c = ap (limited _ _) (Defining.cap_none _ _ _ _ (sym c.in-None.is ∙ c.cap_of.ensures)) ∙ limited-stop _ _ _ _
