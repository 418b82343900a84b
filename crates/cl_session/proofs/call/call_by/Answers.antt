use Rattle.std.proofs.Common.{◌∙◌, ap, map, string_bytes}
use Rattle.cl_request.specs.Request.{text_of}
use Rattle.cl_types.proofs.Faults.{passes}
use Rattle.cl_session.specs.Calls.{contract_in, sender_in, values_in}
use Rattle.cl_session.proofs.Parts.{all_parts, no_args}
use Rattle.cl_session.proofs.call.call_by.Goals as goal

pub returns-in_err-args-clause-broken : goal.returns-in_err-args-clause-broken
returns-in_err-args-clause-broken c =
    passes c.from_residual-in_err-args.result c.in_err-args.field-0.0
    (no_args (sender_in c.args.sender.now) (contract_in c.args.contract.now) (text_of c.args.function.now) (values_in (map (λ p. p.now) c.args.args.now)) c.args.limit
    c.in_ok-sender.sender c.in_ok-contract.contract (string_bytes c.in_ok-function.function)
    c.in_ok-sender.ensures.found c.in_ok-contract.ensures.found c.in_ok-function.ensures.found)
    c.from_residual-in_err-args.ensures.1 c.in_err-args.ensures.broken

pub returns-clause-found : goal.returns-clause-found
returns-clause-found c =
    all_parts (sender_in c.args.sender.now) (contract_in c.args.contract.now) (text_of c.args.function.now) (values_in (map (λ p. p.now) c.args.args.now)) c.args.limit
    c.in_ok-sender.sender c.in_ok-contract.contract (string_bytes c.in_ok-function.function) c.in_ok-args.args.items
    c.none.result c.new.result c.new-2.result
    c.in_ok-sender.ensures.found c.in_ok-contract.ensures.found c.in_ok-function.ensures.found c.in_ok-args.ensures.found
    c.none.ensures (c.new.ensures ∙ ap (λ v. v.items) c.into_bytes.ensures.value) c.new-2.ensures
