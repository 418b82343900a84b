use Rattle.std.proofs.Common.{[], ◌∷◌, ◌++◌, refl, sym, ap, subst, ◌∙◌}
use Rattle.cl_contracts.specs.declared.contract.Contract.{Contract}
use Rattle.cl_contracts.specs.Standings.{AreStanding}
use Rattle.cl_contracts.proofs.Constants.{no_constants}
use Rattle.cl_replies.specs.Kept.{Contracts}
use Rattle.cl_bound.specs.Known.{AreBounds}
use Rattle.cl_replies.proofs.judge.keep.Goals as goal

pub returns-clause-kept : goal.returns-clause-kept
returns-clause-kept c =
    let contract : Contract = record { checked = c.args.checked; constants = c.with_hasher-constants.result.entries } in
    record {
      contract = contract;
      is = refl;
      behind = c.add.ensures ∙ ap (λ (es : Contracts). es ++ (c.args.checked.principal, contract) ∷ []) c.in_ok-reserve.ensures.same;
    }

pub returns-clause-known : goal.returns-clause-known
returns-clause-known c table are of =
    let contract : Contract = record { checked = c.args.checked; constants = c.with_hasher-constants.result.entries } in
    subst (λ (es : Contracts). AreBounds table es c.add-2.new.self) (sym (c.add.ensures ∙ ap (λ (es : Contracts). es ++ (c.args.checked.principal, contract) ∷ []) c.in_ok-reserve.ensures.same))
    (c.add-2.ensures table c.args.accepted.now.deployed.contracts contract (c.in_ok-reserve-2.ensures.same table c.args.accepted.now.deployed.contracts are) of)

pub add-requires-clause-constants : goal.add-requires-clause-constants
add-requires-clause-constants c = no_constants (record { checked = c.args.checked; constants = c.with_hasher-constants.result.entries }) c.with_hasher-constants.ensures.empty

pub add-requires-clause-fits : goal.add-requires-clause-fits
add-requires-clause-fits c = λ known knows. c.requires.fits known (subst (λ (es : Contracts). AreStanding [] es known) c.in_ok-reserve.ensures.same knows)
