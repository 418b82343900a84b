use Rattle.std.proofs.Common.{sym, ap, subst, ◌∙◌}
use Rattle.cl_c32.specs.declared.principal.Principal.{Principal}
use Rattle.cl_meaning.specs.Deployed.{contract_at}
use Rattle.cl_rules.specs.Acceptance.{FirstBreakBeforeBounds}
use Rattle.cl_contracts.specs.Seen.{contract_seen, contract_under, deployed_seen}
use Rattle.cl_check.specs.Checking.{IsFirstBreak}
use Rattle.cl_nodes.specs.Asked.{principal_of, text_in}
use Rattle.cl_nodes.specs.Bounded.{entries_of}
use Rattle.cl_nodes.specs.Accepting.{IsDeployRefusal, IsNew}
use Rattle.cl_nodes.proofs.Knowing.{is_known, none_copied, none_mapped, some_copied, unknown}
use Rattle.cl_nodes.proofs.Deployments.{checked_so}
use Rattle.cl_nodes.proofs.Accepting.{is_broken, is_taken, refused_by}
use Rattle.cl_nodes.proofs.admitting.accept.Goals as goal

pub returns-then-is_some-clause-refused : goal.returns-then-is_some-clause-refused
returns-then-is_some-clause-refused c =
    let d = c.args.deployment.now in
    let cs = c.args.contracts.now in
    let there = some_copied c.find.result (sym c.is_some.ensures ∙ c.if-is_some.true) in
    let under = ap (λ (q : Principal). contract_under q (entries_of cs)) (sym c.principal_of-principal.ensures) ∙ sym c.find.ensures.there ∙ there.1 in
    is_taken d cs (λ known standing. is_known cs.deployed c.what_callers_know.ensures.known c.are_known.ensures.indexed known standing (principal_of d) there.0 under)

pub price-requires-clause-new : goal.price-requires-clause-new
price-requires-clause-new c =
    let d = c.args.deployment.now in
    let cs = c.args.contracts.now in
    let is = sym c.is_some.ensures ∙ c.if-is_some.false in
    let none = ap (λ (q : Principal). contract_under q (entries_of cs)) (sym c.principal_of-principal.ensures) ∙ sym c.find.ensures.there ∙ none_copied c.find.result is in
    record {
      none = none;
      none_seen = ap (λ (q : Principal). contract_at q (deployed_seen cs.deployed)) (sym c.principal_of-principal.ensures) ∙ sym c.find.ensures.seen ∙ none_mapped (λ k. contract_seen (c.principal_of-principal.result, k.now)) c.find.result is;
      none_known = λ known standing. unknown cs.deployed c.what_callers_know.ensures.known c.are_known.ensures.indexed known standing (principal_of d) none;
    }

pub price-requires-clause-checked : goal.price-requires-clause-checked
price-requires-clause-checked c =
    let d = c.args.deployment.now in
    let cs = c.args.contracts.now in
    checked_so (entries_of cs) c.principal_of-principal.result (principal_of d) (text_in d) c.in-Ok.checked c.principal_of-principal.ensures c.in-Ok.ensures.principal c.in-Ok.ensures.version c.in-Ok.ensures.length c.is_well_formed.ensures.indexed c.in-Ok.ensures.found

pub returns-in-Err-clause-refused : goal.returns-in-Err-clause-refused
returns-in-Err-clause-refused c =
    let d = c.args.deployment.now in
    let cs = c.args.contracts.now in
    let is = sym c.is_some.ensures ∙ c.if-is_some.false in
    let none = ap (λ (q : Principal). contract_under q (entries_of cs)) (sym c.principal_of-principal.ensures) ∙ sym c.find.ensures.there ∙ none_copied c.find.result is in
    let new : IsNew (entries_of cs) (principal_of d) = record {
      none = none;
      none_seen = ap (λ (q : Principal). contract_at q (deployed_seen cs.deployed)) (sym c.principal_of-principal.ensures) ∙ sym c.find.ensures.seen ∙ none_mapped (λ k. contract_seen (c.principal_of-principal.result, k.now)) c.find.result is;
      none_known = λ known standing. unknown cs.deployed c.what_callers_know.ensures.known c.are_known.ensures.indexed known standing (principal_of d) none;
    } in
    refused_by c.in-Err.fault c.refusal_of.result (IsFirstBreak cs.deployed c.principal_of-principal.result (text_in d)) (IsDeployRefusal d cs) c.refusal_of.ensures c.in-Err.ensures.broken
    (λ r first. is_broken d cs new r (λ known standing. subst (λ (q : Principal). FirstBreakBeforeBounds known q (text_in d) r.rule r.span r.names.items) c.principal_of-principal.ensures (first known standing)))
