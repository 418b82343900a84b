use Rattle.std.proofs.Common.{[], ◌∷◌, ◌++◌, sym, ap, subst, ◌∙◌}
use Rattle.cl_contracts.specs.Contents.{ContractParts as Contract}
use Rattle.cl_contracts.specs.Seen.{contract_under}
use Rattle.cl_contracts.specs.Standings.{FitsAfter}
use Rattle.cl_contracts.proofs.deployed.Deployed.add.Goals as goal

pub push-requires-clause-new : goal.push-requires-clause-new
push-requires-clause-new c = ap (λ (k : Contract). contract_under k.checked.principal c.args.self.now.contracts) c.new-contract.ensures ∙ c.requires.new

pub push-requires-clause-fits : goal.push-requires-clause-fits
push-requires-clause-fits c = subst (λ (k : Contract). FitsAfter c.args.self.now k.checked) (sym c.new-contract.ensures) c.requires.fits

pub returns : goal.returns
returns c = c.push.ensures ∙ ap (λ (k : Contract). c.args.self.now.contracts ++ (k.checked.principal, k) ∷ []) c.new-contract.ensures
