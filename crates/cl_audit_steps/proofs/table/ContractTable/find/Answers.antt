use Rattle.std.proofs.Common.{ap, ◌∙◌}
use Rattle.std.specs.Prelude.{option_map}
use Rattle.cl_meaning.specs.Deployed.{contract_at}
use Rattle.cl_audit_steps.specs.Seen.{contract_seen, contracts_seen}
use Rattle.cl_audit_steps.specs.Tables.{TableParts}
use Rattle.cl_audit_steps.proofs.TableLaws.{contract_is}
use Rattle.cl_audit_steps.proofs.table.ContractTable.find.Goals as goal

pub returns : goal.returns
returns c =
    ap (option_map contract_seen) c.get.ensures.value ∙ contract_is c.one_spelling.ensures.own c.args.principal.now c.self.inside.contracts.entries c.is_valid.ensures c.self.invariant.each
    ∙ ap (λ (t : TableParts). contract_at c.args.principal.now (contracts_seen t.contracts)) c.self.view_is
