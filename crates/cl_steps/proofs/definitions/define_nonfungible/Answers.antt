use Rattle.std.proofs.Common.{◌∙◌, refl, ap}
use Rattle.std.proofs.lemmas.Result.{err_from_is_err_and}
use Rattle.cl_state.specs.Stack.{Stack}
use Rattle.cl_meaning.specs.Limits.{limited}
use Rattle.cl_frames.specs.Deploys.{contract_so_far}
use Rattle.cl_frames.proofs.Steps.{pay_fails}
use Rattle.cl_frames.proofs.Defining as Defining
use Rattle.cl_steps.proofs.definitions.define_nonfungible.Goals as goal

pub returns-in_err-pay-clause-meant : goal.returns-in_err-pay-clause-meant
returns-in_err-pay-clause-meant c type at =
    pay_fails _ _ c.in_err-pay.field-0.0 _ _ _ _ _ _ _ (Defining.hand c.args.deploying.now _ _ _ (err_from_is_err_and c.from_residual.result c.from_residual.ensures.1)) (ap (limited _ _) (Defining.nonfungible_at _ _ _ _ _ type)) c.in_err-pay.ensures

pub define_nft-requires : goal.define_nft-requires
define_nft-requires c = Defining.absent_there c.args.world.now.stack.top.nonfungibles _ _ _ _ c.place_of.ensures.contract c.place_of.ensures.name c.requires.new

pub returns-clause-meant : goal.returns-clause-meant
returns-clause-meant c type at =
    ap (limited _ _) (Defining.nonfungible_at _ _ _ _ _ type)
    ∙ Defining.charged_gives _ _ _ _ _ _ _ _ _ c.in_ok-pay.ensures refl
    (Defining.nonfungible_there (contract_so_far c.args.deploying.now c.args.constants.now.entries) c.place_of.result.contract c.args.name.now c.place_of.result.name c.args.world.now.stack.top _ c.place_of.ensures.contract c.place_of.ensures.name (ap (λ (w : Stack). w.top) c.in_ok-define_nft.ensures.done))
