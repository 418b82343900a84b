use Rattle.std.proofs.Common.{sym, subst}
use Rattle.cl_costs.specs.Tables.{function_of}
use Rattle.cl_shapes.specs.Limits.{Purse}
use Rattle.cl_meaning.specs.Limits.{limited}
use Rattle.cl_meaning.specs.Trace.{trace_of}
use Rattle.cl_audit.specs.Agrees.{IsAgreement}
use Rattle.cl_audit.specs.Calls.{call_of}
use Rattle.cl_audit_entries.specs.Calling.{call_limited}
use Rattle.cl_audit_entries.specs.Ending.{Leaves}
use Rattle.cl_audit_entries.proofs.Ends.{leaves, may_end}
use Rattle.cl_audit_entries.proofs.call.apply.Goals as goal

pub judge-requires : goal.judge-requires
judge-requires c =
    let S = c.args.scope.now in
    let f = c.args.function.now in
    let i = c.args.invocation.now in
    let end = c.audit_call-end.result.end in
    let top = c.audit_call-end.new.run.world.stack.top in
    let left : Leaves (call_limited S f i c.args.run.now) end c.audit_call-end.new.run.meter top =
    subst (λ (p : Purse). Leaves (limited (function_of S.costs.now) p (call_of S f i.args.now c.args.run.now.world.stack.top)) end c.audit_call-end.new.run.meter top)
    c.meter_of-run.ensures (leaves _ _ end _ _ c.audit_call-end.ensures.call.call) in
    may_end i.common.now f.access (call_limited S f i c.args.run.now) end _ _ c.requires.comes left

pub returns-clause-ended : goal.returns-clause-ended
returns-clause-ended c = λ node.
    let S = c.args.scope.now in
    let f = c.args.function.now in
    let i = c.args.invocation.now in
    let end = c.audit_call-end.result.end in
    let top = c.audit_call-end.new.run.world.stack.top in
    let left : Leaves (call_limited S f i c.args.run.now) end c.audit_call-end.new.run.meter top =
    subst (λ (p : Purse). Leaves (limited (function_of S.costs.now) p (call_of S f i.args.now c.args.run.now.world.stack.top)) end c.audit_call-end.new.run.meter top)
    c.meter_of-run.ensures (leaves _ _ end _ _ c.audit_call-end.ensures.call.call) in
    c.in_ok-ended.ensures.ended (call_limited S f i c.args.run.now) c.audit_call-end.new.run.meter node left (sym c.spent.ensures.value)

pub returns-clause-agrees : goal.returns-clause-agrees
returns-clause-agrees c =
    let S = c.args.scope.now in
    let f = c.args.function.now in
    let i = c.args.invocation.now in
    subst (λ (p : Purse). IsAgreement (trace_of (function_of S.costs.now) p (call_of S f i.args.now c.args.run.now.world.stack.top)) c.args.run.now.cursor.claims.now c.audit_call-end.result.agreement)
    c.meter_of-run.ensures (c.audit_call-end.ensures.agrees c.in_ok-ended.ensures.ends)
