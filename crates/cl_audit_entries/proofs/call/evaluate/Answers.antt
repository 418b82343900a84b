use Rattle.std.proofs.Common.{◌≡◌, ℕ, List, Some, None, sym, ap, subst, ◌∙◌}
use Rattle.cl_costs.specs.Tables.{function_of}
use Rattle.cl_meaning.specs.Deployed.{contract_at, function_in}
use Rattle.cl_meaning.specs.Limits.{Limited}
use Rattle.cl_meaning.specs.Trace.{Claim as Told}
use Rattle.cl_values.specs.Tree.{Tree}
use Rattle.cl_nodes.specs.Calling.{Comes, ended_so}
use Rattle.cl_nodes.specs.Seen.{node_with}
use Rattle.cl_nodes.proofs.CallSteps.{in_function, no_contract, no_function}
use Rattle.cl_tx.specs.Nodes.{NodeSeen, call_ended}
use Rattle.cl_tx.specs.Rebounds.{first_over}
use Rattle.cl_tx.specs.declared.outcome.EntryRefusal.TheVariants.{NoBound, NoContract, NoFunction}
use Rattle.cl_audit_steps.specs.Seen.{contract_seen, contracts_seen, frame_seen, function_seen}
use Rattle.cl_audit.specs.Agrees.{IsAgreement}
use Rattle.cl_audit_entries.specs.Seen.{seen_of}
use Rattle.cl_audit_entries.proofs.Calls.{bound_refused, home_is, limited_is, told_is, comes, ends, goes_by, ok_both, refused_ends, unnamed}
use Rattle.cl_audit_entries.proofs.call.evaluate.Goals as goal

pub returns-in_default-clause-ended : goal.returns-in_default-clause-ended
returns-in_default-clause-ended c =
    let i = c.args.invocation.now in
    let S = c.args.scope.now in
    let table = S.costs.now in
    let height = S.frame.now.height in
    let texts = S.contracts.now.contracts in
    let cs = c.args.contracts.now in
    let run = c.args.run.now in
    let there : contract_at i.contract.now (contracts_seen texts) ≡ None = sym (c.in_default.ensures ∙ home_is S i c.requires.around) in
    refused_ends i table height texts cs run NoContract c.of_refusal.result c.of_refusal.ensures.ended c.of_refusal.ensures.agrees
    (λ known sound. no_contract (function_of table) (node_with known (seen_of run texts height)) i.common.now i.contract.now i.function.now i.args.now there) run

pub returns-in_default-make-clause-ended : goal.returns-in_default-make-clause-ended
returns-in_default-make-clause-ended c =
    let i = c.args.invocation.now in
    let S = c.args.scope.now in
    let table = S.costs.now in
    let height = S.frame.now.height in
    let texts = S.contracts.now.contracts in
    let cs = c.args.contracts.now in
    let run = c.args.run.now in
    let K = contract_seen c.in-Some.contract.now in
    let there : contract_at i.contract.now (contracts_seen texts) ≡ Some K = sym (c.in-Some.ensures ∙ home_is S i c.requires.around) in
    refused_ends i table height texts cs run NoFunction c.of_refusal-in_default-make.result c.of_refusal-in_default-make.ensures.ended c.of_refusal-in_default-make.ensures.agrees
    (λ known sound. no_function (function_of table) (node_with known (seen_of run texts height)) i.common.now i.contract.now i.function.now i.args.now K there
    (unnamed (function_in i.function.now K.forms) (λ f is. (c.functions_are_named.ensures (contracts_seen texts) known sound.sound.contracts i.contract.now c.requires.ready.parts.1 K there i.function.now f is).0) c.in_default-make.ensures)) run

pub returns-in_default-function-clause-ended : goal.returns-in_default-function-clause-ended
returns-in_default-function-clause-ended c =
    let i = c.args.invocation.now in
    let S = c.args.scope.now in
    let table = S.costs.now in
    let height = S.frame.now.height in
    let texts = S.contracts.now.contracts in
    let cs = c.args.contracts.now in
    let run = c.args.run.now in
    let K = contract_seen c.in-Some.contract.now in
    let there : contract_at i.contract.now (contracts_seen texts) ≡ Some K = sym (c.in-Some.ensures ∙ home_is S i c.requires.around) in
    let none : function_in i.function.now K.forms ≡ None = sym (c.in_default-function.ensures ∙ ap (λ (x : List ℕ). function_in x K.forms) c.in-Some-make.ensures.1) in
    refused_ends i table height texts cs run NoFunction c.of_refusal-in_default-function.result c.of_refusal-in_default-function.ensures.ended c.of_refusal-in_default-function.ensures.agrees
    (λ known sound. no_function (function_of table) (node_with known (seen_of run texts height)) i.common.now i.contract.now i.function.now i.args.now K there none) run

pub refusal_of-requires : goal.refusal_of-requires
refusal_of-requires c =
    let i = c.args.invocation.now in
    let S = c.args.scope.now in
    let table = S.costs.now in
    let height = S.frame.now.height in
    let texts = S.contracts.now.contracts in
    let cs = c.args.contracts.now in
    let run = c.args.run.now in
    let K = contract_seen c.in-Some.contract.now in
    let there : contract_at i.contract.now (contracts_seen texts) ≡ Some K = sym (c.in-Some.ensures ∙ home_is S i c.requires.around) in
    let f = function_seen c.in-Some-function.function in
    let defined : function_in i.function.now K.forms ≡ Some f = sym (c.in-Some-function.ensures ∙ ap (λ (x : List ℕ). function_in x K.forms) c.in-Some-make.ensures.1) in
    let sound = c.requires.ready.sound in
    (c.functions_are_named.ensures (contracts_seen texts) sound.known sound.is_sound.sound.contracts i.contract.now c.requires.ready.parts.1 K there i.function.now f defined).1

pub returns-in-Some-refusal_of-clause-ended : goal.returns-in-Some-refusal_of-clause-ended
returns-in-Some-refusal_of-clause-ended c =
    let i = c.args.invocation.now in
    let S = c.args.scope.now in
    let table = S.costs.now in
    let height = S.frame.now.height in
    let texts = S.contracts.now.contracts in
    let cs = c.args.contracts.now in
    let run = c.args.run.now in
    let K = contract_seen c.in-Some.contract.now in
    let there : contract_at i.contract.now (contracts_seen texts) ≡ Some K = sym (c.in-Some.ensures ∙ home_is S i c.requires.around) in
    let f = function_seen c.in-Some-function.function in
    let defined : function_in i.function.now K.forms ≡ Some f = sym (c.in-Some-function.ensures ∙ ap (λ (x : List ℕ). function_in x K.forms) c.in-Some-make.ensures.1) in
    refused_ends i table height texts cs run c.in-Some-refusal_of.refusal c.of_refusal-in-Some-refusal_of.result c.of_refusal-in-Some-refusal_of.ensures.ended c.of_refusal-in-Some-refusal_of.ensures.agrees
    (λ known sound. in_function (function_of table) (node_with known (seen_of run texts height)) i.common.now i.contract.now i.function.now i.args.now K f there defined
    ∙ c.in-Some-refusal_of.ensures.refused (function_of table) (node_with known (seen_of run texts height)) i.common.now i.contract.now) run

pub returns-in-Some-over-clause-ended : goal.returns-in-Some-over-clause-ended
returns-in-Some-over-clause-ended c =
    let i = c.args.invocation.now in
    let S = c.args.scope.now in
    let table = S.costs.now in
    let height = S.frame.now.height in
    let texts = S.contracts.now.contracts in
    let cs = c.args.contracts.now in
    let run = c.args.run.now in
    let K = contract_seen c.in-Some.contract.now in
    let there : contract_at i.contract.now (contracts_seen texts) ≡ Some K = sym (c.in-Some.ensures ∙ home_is S i c.requires.around) in
    let f = function_seen c.in-Some-function.function in
    let defined : function_in i.function.now K.forms ≡ Some f = sym (c.in-Some-function.ensures ∙ ap (λ (x : List ℕ). function_in x K.forms) c.in-Some-make.ensures.1) in
    let may = c.in_default-refusal_of.ensures.called in
    let named : f.name ≡ c.in-Some-make.name = goes_by c.in-Some-make.name K.forms f (sym c.in-Some-function.ensures) in
    refused_ends i table height texts cs run (NoBound c.in-Some-over.dimension) c.of_refusal-in-Some-over.result c.of_refusal-in-Some-over.ensures.ended c.of_refusal-in-Some-over.ensures.agrees
    (bound_refused i table height texts cs run K f there defined may c.in-Some-over.dimension (λ known sound. ap (first_over (function_of table) known i.contract.now) named ∙ sym (c.in-Some-over.ensures (function_of table) cs.deployed.now.contracts known c.requires.callable.bounds_are sound.trees))) run

pub apply-requires-clause-comes : goal.apply-requires-clause-comes
apply-requires-clause-comes c =
    let i = c.args.invocation.now in
    let S = c.args.scope.now in
    let table = S.costs.now in
    let height = S.frame.now.height in
    let texts = S.contracts.now.contracts in
    let cs = c.args.contracts.now in
    let run = c.args.run.now in
    let K = contract_seen c.in-Some.contract.now in
    let there : contract_at i.contract.now (contracts_seen texts) ≡ Some K = sym (c.in-Some.ensures ∙ home_is S i c.requires.around) in
    let f = function_seen c.in-Some-function.function in
    let defined : function_in i.function.now K.forms ≡ Some f = sym (c.in-Some-function.ensures ∙ ap (λ (x : List ℕ). function_in x K.forms) c.in-Some-make.ensures.1) in
    let may = c.in_default-refusal_of.ensures.called in
    let named : f.name ≡ c.in-Some-make.name = goes_by c.in-Some-make.name K.forms f (sym c.in-Some-function.ensures) in
    let sound = c.requires.ready.sound in
    subst (λ (l : Limited Tree). Comes i.common.now f.access l) (sym (limited_is S i c.requires.around c.in-Some-function.function run))
    (comes i table height texts cs run K f there defined may (λ known sound. ap (first_over (function_of table) known i.contract.now) named ∙ sym (c.in_default-over.ensures (function_of table) cs.deployed.now.contracts known c.requires.callable.bounds_are sound.trees))
    (frame_seen S.frame.now) (λ known. c.requires.around.framed) c.entries_come_to_something.ensures.calls c.requires.ready.parts sound.known sound.is_sound)

pub returns-clause-ended : goal.returns-clause-ended
returns-clause-ended c =
    let i = c.args.invocation.now in
    let S = c.args.scope.now in
    let table = S.costs.now in
    let height = S.frame.now.height in
    let texts = S.contracts.now.contracts in
    let cs = c.args.contracts.now in
    let run = c.args.run.now in
    let K = contract_seen c.in-Some.contract.now in
    let there : contract_at i.contract.now (contracts_seen texts) ≡ Some K = sym (c.in-Some.ensures ∙ home_is S i c.requires.around) in
    let f = function_seen c.in-Some-function.function in
    let defined : function_in i.function.now K.forms ≡ Some f = sym (c.in-Some-function.ensures ∙ ap (λ (x : List ℕ). function_in x K.forms) c.in-Some-make.ensures.1) in
    let may = c.in_default-refusal_of.ensures.called in
    let named : f.name ≡ c.in-Some-make.name = goes_by c.in-Some-make.name K.forms f (sym c.in-Some-function.ensures) in
    ok_both c.apply.result _ _ _ (λ called ended agrees. ends i table height texts cs run K f there defined may (λ known sound. ap (first_over (function_of table) known i.contract.now) named ∙ sym (c.in_default-over.ensures (function_of table) cs.deployed.now.contracts known c.requires.callable.bounds_are sound.trees))
    (frame_seen S.frame.now) (λ known. c.requires.around.framed) called c.apply.new.run
    (subst (λ (l : Limited Tree). (node : NodeSeen) → call_ended i.common.now f.access node l ≡ Some (ended_so called.ended node c.apply.new.run.world.stack.top)) (limited_is S i c.requires.around c.in-Some-function.function run) ended)
    (subst (λ (t : List Told). IsAgreement t run.cursor.claims.now called.agreement) (told_is S i c.requires.around c.in-Some-function.function run) agrees)) c.apply.ensures.ended c.apply.ensures.agrees
