use Rattle.std.proofs.Common.{◌≡◌, map, ◌++◌, ◌∷◌, [], sym, ap, subst, refl, ◌∙◌}
use Rattle.cl_c32.specs.declared.principal.Principal.{Principal}
use Rattle.cl_c32.specs.contracts.principal.PrincipalPartialEq.TheImpl.{eq-value}
use Rattle.indexmap.proofs.CallerLemmas.{insert_entry-new}
use Rattle.cl_meaning.specs.Deployed.{contract_at}
use Rattle.cl_audit_steps.specs.declared.scope.Contract.{Contract}
use Rattle.cl_audit_steps.specs.Seen.{contracts_seen}
use Rattle.cl_audit_steps.specs.Tables.{EachOwn, TableParts}
use Rattle.cl_audit_steps.proofs.TableLaws.{absent, contracts_more, own_more}
use Rattle.cl_audit_steps.proofs.table.ContractTable.push.Goals as goal

-- the entries then
added : (c : goal.Joined-this) → c.insert.new.self.entries ≡ c.self.inside.contracts.entries ++ (c.args.contract.principal, c.args.contract) ∷ []
added c =
    let es = c.self.inside.contracts.entries in
    let p = c.args.contract.principal in
    c.in-Ok.ensures.entries ∙ insert_entry-new eq-value.it c.self.inside.contracts p c.args.contract
    (absent c.one_spelling.ensures.own p es c.is_valid.ensures c.self.invariant.each
    (ap (λ (t : TableParts). contract_at p (contracts_seen t.contracts)) c.self.view_is ∙ c.requires.new))

pub invariant_of-self : goal.invariant_of-self
invariant_of-self c =
    record { each = subst EachOwn (sym (added c)) (own_more c.self.inside.contracts.entries (c.args.contract.principal, c.args.contract) c.self.invariant.each (record { principal = refl; valid = c.is_valid.ensures })) }

pub returns : goal.returns
returns c =
    ap (map (λ (e : Principal × Contract). e.1)) (added c) ∙ contracts_more c.self.inside.contracts.entries (c.args.contract.principal, c.args.contract)
    ∙ ap (λ (t : TableParts). t.contracts ++ c.args.contract ∷ []) c.self.view_is
