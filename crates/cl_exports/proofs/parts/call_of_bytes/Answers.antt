use Rattle.std.proofs.Common.{◌≡◌, IfOk, Some, None, Option, subst, sym}
use Rattle.cl_types.specs.Fault.{IfRefused}
use Rattle.cl_file.specs.declared.entry.Entry.{Entry}
use Rattle.cl_exports.proofs.Endings.{call_at}
use Rattle.cl_exports.proofs.parts.call_of_bytes.Goals as goal

pub returns-clause-found : goal.returns-clause-found
returns-clause-found c =
    subst (λ (call : Option Entry). IfOk c.call_of.result (λ e. call ≡ Some e)) (sym (call_at _ c.args.bytes.now c.args.ends.now c.args.limits.now _ _ c.in_ok-pieces.ensures.found c.deref.ensures.value)) c.call_of.ensures.found

pub returns-clause-broken : goal.returns-clause-broken
returns-clause-broken c =
    subst (λ (call : Option Entry). IfRefused c.call_of.result (λ r. call ≡ None)) (sym (call_at _ c.args.bytes.now c.args.ends.now c.args.limits.now _ _ c.in_ok-pieces.ensures.found c.deref.ensures.value)) c.call_of.ensures.broken
