use Rattle.std.proofs.Common.{List, Some, map, subst}
use Rattle.cl_audit_walk.specs.declared.cursor.Claim.{Claim}
use Rattle.cl_audit.specs.Told.{claim_told}
use Rattle.cl_engine.specs.Traces.{SeesTrace}
use Rattle.cl_traces.proofs.Tracing.{has_trace}
use Rattle.cl_traces.proofs.steps.trace_entry.Goals as goal

pub returns-clause-made : goal.returns-clause-made
returns-clause-made c =
    let told = map claim_told c.step_watched.new.watch.claims.items in
    has_trace c.args.costs.now c.args.node.now c.step_watched.new.self c.args.entry.now c.in_ok-given.given told c.in_ok-given.ensures.steps
    (subst (λ (cs : List Claim). SeesTrace c.args.costs.now c.args.node.now c.args.entry.now c.in_ok-given.given (Some (map claim_told cs)) (Some told)) c.new-trace.ensures c.in_ok-given.ensures.seen)
