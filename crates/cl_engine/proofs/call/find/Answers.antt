use Rattle.std.proofs.Common.{ℕ, ◌<◌, ◌^◌, sym, ap, subst, ◌∙◌}
use Rattle.cl_meaning.specs.Deployed.{Contract, Deployed, contract_at}
use Rattle.cl_contracts.specs.Seen.{contract_seen, deployed_seen, function_seen}
use Rattle.cl_nodes.proofs.CallSteps.{in_function, no_contract, no_function}
use Rattle.cl_engine.proofs.call.find.Goals as goal

pub returns-in_default-clause-refused : goal.returns-in_default-clause-refused
returns-in_default-clause-refused c = λ costs node same.
    let i = c.args.invocation.now in
    no_contract costs node i.common.now i.contract.now i.function.now i.args.now (ap (λ (W : Deployed). contract_at i.contract.now W) same ∙ sym c.in_default.ensures.seen)

pub function_named-requires : goal.function_named-requires
function_named-requires c = λ f is.
    let i = c.args.invocation.now in
    (c.functions_are_named.ensures (deployed_seen c.args.deployed.now) c.requires.accepted.known c.requires.accepted.contracts i.contract.now c.requires.parts.1 (contract_seen (i.contract.now, c.in-Some.contract.now)) (sym c.in-Some.ensures.seen) i.function.now f is).0

pub returns-in_default-function_named-clause-refused : goal.returns-in_default-function_named-clause-refused
returns-in_default-function_named-clause-refused c = λ costs node same.
    let i = c.args.invocation.now in
    let contract : Contract = contract_seen (i.contract.now, c.in-Some.contract.now) in
    no_function costs node i.common.now i.contract.now i.function.now i.args.now contract (ap (λ (W : Deployed). contract_at i.contract.now W) same ∙ sym c.in-Some.ensures.seen) (sym c.in_default-function_named.ensures.seen)

pub refusal_of-requires : goal.refusal_of-requires
refusal_of-requires c =
    let i = c.args.invocation.now in
    (c.functions_are_named.ensures (deployed_seen c.args.deployed.now) c.requires.accepted.known c.requires.accepted.contracts i.contract.now c.requires.parts.1 (contract_seen (i.contract.now, c.in-Some.contract.now)) (sym c.in-Some.ensures.seen) i.function.now (function_seen c.in-Some-function_named.function.now) (sym c.in-Some-function_named.ensures.seen)).1

pub returns-in-Some-refusal_of-clause-refused : goal.returns-in-Some-refusal_of-clause-refused
returns-in-Some-refusal_of-clause-refused c = λ costs node same.
    let i = c.args.invocation.now in
    let contract : Contract = contract_seen (i.contract.now, c.in-Some.contract.now) in
    in_function costs node i.common.now i.contract.now i.function.now i.args.now contract (function_seen c.in-Some-function_named.function.now) (ap (λ (W : Deployed). contract_at i.contract.now W) same ∙ sym c.in-Some.ensures.seen) (sym c.in-Some-function_named.ensures.seen)
    ∙ c.in-Some-refusal_of.ensures.refused costs node i.common.now i.contract.now

pub returns-in-None-clause-found : goal.returns-in-None-clause-found
returns-in-None-clause-found c =
    let i = c.args.invocation.now in
    let few = (c.functions_are_named.ensures (deployed_seen c.args.deployed.now) c.requires.accepted.known c.requires.accepted.contracts i.contract.now c.requires.parts.1 (contract_seen (i.contract.now, c.in-Some.contract.now)) (sym c.in-Some.ensures.seen) i.function.now (function_seen c.in-Some-function_named.function.now) (sym c.in-Some-function_named.ensures.seen)).1 in
    record {
      there = sym c.in-Some.ensures.seen;
      entry = c.in-Some.ensures.entry;
      function = sym c.in-Some-function_named.ensures.seen;
      goes = c.in-Some-function_named.ensures.goes;
      few = subst (λ (n : ℕ). n < 2 ^ 32) (sym c.in-None.ensures.called.as_many) few;
      may = c.in-None.ensures.called;
    }
