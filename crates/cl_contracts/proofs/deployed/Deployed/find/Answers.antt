use Rattle.std.proofs.Common.{ap, sym, subst, ◌∙◌, Option}
use Rattle.std.specs.Prelude.{option_map}
use Rattle.cl_meaning.specs.Deployed.{contract_at}
use Rattle.cl_contracts.specs.Contents.{ContractParts as Contract, DeployedParts}
use Rattle.cl_contracts.specs.Seen.{contract_seen, deployed_seen}
use Rattle.cl_contracts.proofs.Places.{lent}
use Rattle.cl_contracts.proofs.Principals.{contract_is, entry_is, entry_lent, EntryIf}
use Rattle.cl_contracts.proofs.deployed.Deployed.find.Goals as goal

pub returns-clause-seen : goal.returns-clause-seen
returns-clause-seen c =
    lent (λ (d : Contract). contract_seen (c.args.principal.now, d)) c.under.result ∙ ap (option_map (λ (d : Contract). contract_seen (c.args.principal.now, d))) c.under.ensures
    ∙ contract_is c.one_spelling.ensures.own c.args.principal.now c.self.inside.contracts.entries c.is_valid.ensures c.self.invariant.0.each
    ∙ ap (λ (d : DeployedParts). contract_at c.args.principal.now (deployed_seen d)) c.self.view_is

pub returns-clause-entry : goal.returns-clause-entry
returns-clause-entry c =
    entry_lent c.args.principal.now c.under.result (subst (λ (o : Option Contract). EntryIf c.args.principal.now o) (sym c.under.ensures) (entry_is c.args.principal.now c.self.inside.contracts.entries c.self.invariant.0.each))
