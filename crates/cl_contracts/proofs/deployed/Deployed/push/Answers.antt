use Rattle.std.proofs.Common.{List, [], ◌∷◌, ◌++◌, sym, subst}
use Rattle.cl_c32.specs.declared.principal.Principal.{Principal}
use Rattle.cl_rules.specs.Acceptance.{known_of}
use Rattle.cl_rules.specs.Context.{Known}
use Rattle.cl_rules.specs.FormRules.{nothing_defined}
use Rattle.cl_contracts.specs.Contents.{ContractParts as Contract, DeployedParts}
use Rattle.cl_contracts.specs.Seen.{AreEntries}
use Rattle.cl_contracts.specs.Standings.{AllStand, AreStanding, Knows, definitions_in_order}
use Rattle.cl_contracts.proofs.Principals.{entries_more}
use Rattle.cl_contracts.proofs.Fitting.{standing_push}
use Rattle.cl_contracts.proofs.deployed.Deployed.push.Goals as goal

pub invariant_of-self : goal.invariant_of-self
invariant_of-self c =
    let es = c.self.inside.contracts.entries in
    let known : List Known = c.self.invariant.1.known in
    let own = c.args.contract.checked in
    let e : Principal × Contract = (c.entry_of-principal.result, c.args.contract) in
    let fit = c.requires.fits known (subst (λ (d : DeployedParts). Knows d known) c.self.view_is c.self.invariant.1.knows) in
    let stands : AllStand (nothing_defined known e.0 own.version own.source_length) (definitions_in_order own) fit.0 = subst (λ (p : Principal). AllStand (nothing_defined known p own.version own.source_length) (definitions_in_order own) fit.0) (sym c.entry_of-principal.ensures.same) fit.1 in
    let after : List Known = known ++ known_of e.0 own.source_length fit.0 ∷ [] in (
      record { each = subst AreEntries (sym c.put.ensures) (entries_more es e c.self.invariant.0.each c.entry_of-principal.ensures.entry) },
      record { known = after; knows = subst (λ (cs : List (Principal × Contract)). AreStanding [] cs after) (sym c.put.ensures) (standing_push [] es known e fit.0 c.self.invariant.1.knows stands) },
    )
