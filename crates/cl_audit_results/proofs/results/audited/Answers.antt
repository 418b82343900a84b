use Rattle.std.proofs.Common.{◌+◌, List, [], length, take, refl, sym, ap, subst, arith}
use Rattle.cl_types.proofs.Faults.{passes}
use Rattle.cl_file.specs.Entries.{NeverFall}
use Rattle.cl_tx.specs.declared.outcome.TxResult.{TxResult}
use Rattle.cl_audit_results.specs.Audits.{claims_of}
use Rattle.cl_audit_results.proofs.Counted.{has_traces}
use Rattle.cl_audit_results.proofs.Along.{along_next, along_refused}
use Rattle.cl_audit_results.proofs.Reached.{Reaches, may_follow, reaches_first}
use Rattle.cl_audit_results.proofs.Taken.{audited_taken}
use Rattle.cl_audit_results.proofs.results.audited.Goals as goal

pub loop-at-init : goal.loop-at-init
loop-at-init c =
    subst (λ (rs : List TxResult). Reaches c.args.costs.now c.args.file.now.genesis [] [] rs c.in_ok-node.node) (sym c.in_ok-results.ensures.items)
    (reaches_first c.args.costs.now c.args.file.now.genesis c.in_ok-node.node c.in_ok-node.ensures)

pub audit_at-requires-clause-rises : goal.audit_at-requires-clause-rises
audit_at-requires-clause-rises c = λ e is_next.
    let size = ap length c.entries-count.ensures.value in
    may_follow c.heights_are_those_of_the_file.ensures c.args.costs.now c.args.file.now.genesis c.args.file.now.entries (claims_of (take c.loop-at.at c.args.traces.now)) c.loop-at.results.items c.loop-at.node c.loop-at.at e (omega (arith, size)) is_next
    (subst (NeverFall 0) c.entries-count.ensures.value c.entries-count.ensures.rising) c.loop-at.invariant

pub loop-at-preserved : goal.loop-at-preserved
loop-at-preserved c =
    let size = ap length c.entries-count.ensures.value in
    subst (λ (rs : List TxResult). Reaches c.args.costs.now c.args.file.now.genesis (take (c.loop-at.at + 1) c.args.file.now.entries) (claims_of (take (c.loop-at.at + 1) c.args.traces.now)) rs c.audit_at.new.node) (sym c.in_ok-push.ensures.items)
    (along_next c.nodes_are_known_in_one_way.ensures c.args.costs.now c.args.file.now c.args.traces.now c.loop-at.at (omega (arith, size)) (omega (arith, size)) c.loop-at.results.items c.loop-at.node c.loop-at.invariant c.in_ok-given.given c.audit_at.new.node c.in_ok-given.ensures.right)

pub returns-in_err-given-clause-refused : goal.returns-in_err-given-clause-refused
returns-in_err-given-clause-refused c =
    let size = ap length c.entries-count.ensures.value in
    passes c.from_residual-in_err-given.result c.in_err-given.field-0.0
    (λ why h. along_refused c.nodes_are_known_in_one_way.ensures c.args.costs.now c.args.file.now c.args.traces.now c.loop-at.at (omega (arith, size)) (omega (arith, size)) c.loop-at.results.items c.loop-at.node c.loop-at.invariant c.steps_have_one_result.ensures.step c.entries_have_one_trace.ensures why h)
    c.from_residual-in_err-given.ensures.1 c.in_err-given.ensures.refused

pub returns-clause-results : goal.returns-clause-results
returns-clause-results c =
    let size = ap length c.entries-count.ensures.value in
    audited_taken c.args.costs.now c.args.file.now c.args.traces.now c.loop-at.results.items c.loop-at.results.items c.loop-at.node c.loop-at.at (omega (arith, size)) (omega (arith, size)) refl c.loop-at.invariant

pub returns-in_err-given-clause-traced : goal.returns-in_err-given-clause-traced
returns-in_err-given-clause-traced c =
    let size = ap length c.entries-count.ensures.value in
    passes c.from_residual-in_err-given.result c.in_err-given.field-0.0
    (λ why h. has_traces c.args.file.now c.args.traces.now (omega (arith, size)) why)
    c.from_residual-in_err-given.ensures.1 c.in_err-given.ensures.refused
