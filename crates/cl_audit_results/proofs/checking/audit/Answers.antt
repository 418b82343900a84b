use Rattle.std.proofs.Common.{◌≡◌, ◌+◌, List, [], ◌∷◌, ◌++◌, length, take, true, false, refl, sym, ap, subst, ◌∙◌, arith}
use Rattle.cl_types.proofs.Faults.{passes}
use Rattle.cl_file.specs.Entries.{NeverFall}
use Rattle.cl_tx.specs.declared.outcome.TxResult.{TxResult}
use Rattle.cl_audit_results.specs.Audits.{claims_of}
use Rattle.cl_audit_results.proofs.Counted.{has_results, has_traces}
use Rattle.cl_audit_results.proofs.Along.{along_next, beside_differs, beside_refused}
use Rattle.cl_audit_results.proofs.Reached.{Reaches, may_follow, reaches_first}
use Rattle.cl_audit_results.proofs.Taken.{all_taken, audited_taken, is_at, items_same, taken_next}
use Rattle.cl_audit_results.proofs.checking.audit.Goals as goal

pub loop-at-init : goal.loop-at-init
loop-at-init c = reaches_first c.args.costs.now c.args.file.now.genesis c.in_ok-node.node c.in_ok-node.ensures

pub audit_at-requires-clause-rises : goal.audit_at-requires-clause-rises
audit_at-requires-clause-rises c = λ e is_next.
    let size = ap length c.entries-count.ensures.value in
    may_follow c.heights_are_those_of_the_file.ensures c.args.costs.now c.args.file.now.genesis c.args.file.now.entries (claims_of (take c.loop-at.at c.args.traces.now)) (take c.loop-at.at c.args.results.now) c.loop-at.node c.loop-at.at e (omega (arith, size)) is_next
    (subst (NeverFall 0) c.entries-count.ensures.value c.entries-count.ensures.rising) c.loop-at.invariant

pub returns-in_err-meant-clause-refused : goal.returns-in_err-meant-clause-refused
returns-in_err-meant-clause-refused c =
    let size = ap length c.entries-count.ensures.value in
    passes c.from_residual-in_err-meant.result c.in_err-meant.field-0.0
    (λ why h. beside_refused c.nodes_are_known_in_one_way.ensures c.args.costs.now c.args.file.now c.args.traces.now c.loop-at.at (omega (arith, size)) (omega (arith, size)) (take c.loop-at.at c.args.results.now) c.loop-at.node c.loop-at.invariant c.steps_have_one_result.ensures.step c.entries_have_one_trace.ensures
    c.args.results.now (is_at c.args.results.now c.loop-at.at (omega (arith, size))) refl why h)
    c.from_residual-in_err-meant.ensures.1 c.in_err-meant.ensures.refused

pub returns-then-not-equal_results-clause-refused : goal.returns-then-not-equal_results-clause-refused
returns-then-not-equal_results-clause-refused c =
    let size = ap length c.entries-count.ensures.value in
    let r = is_at c.args.results.now c.loop-at.at (omega (arith, size)) in
    beside_differs c.nodes_are_known_in_one_way.ensures c.args.costs.now c.args.file.now c.args.traces.now c.loop-at.at (omega (arith, size)) (omega (arith, size)) (take c.loop-at.at c.args.results.now) c.loop-at.node c.loop-at.invariant c.steps_have_one_result.ensures.step c.entries_have_one_trace.ensures
    c.args.results.now r refl c.audit_at.new.node c.in_ok-meant.meant c.in_ok-meant.ensures.right
    (λ same.
    let given : c.equal_results.result ≡ true = c.equal_results.ensures.1 (same ∙ items_same c.args.results.now c.loop-at.at r.item c.index-results-at.result (omega (arith, size)) r.there c.index-results-at.is) in
    let other : c.equal_results.result ≡ false = c.if-not-equal_results.true in
    cc)

pub loop-at-preserved : goal.loop-at-preserved
loop-at-preserved c =
    let size = ap length c.entries-count.ensures.value in
    let r = is_at c.args.results.now c.loop-at.at (omega (arith, size)) in
    let same : c.in_ok-meant.meant ≡ r.item = c.equal_results.ensures.0 c.if-not-equal_results.false ∙ items_same c.args.results.now c.loop-at.at c.index-results-at.result r.item (omega (arith, size)) c.index-results-at.is r.there in
    subst (λ (rs : List TxResult). Reaches c.args.costs.now c.args.file.now.genesis (take (c.loop-at.at + 1) c.args.file.now.entries) (claims_of (take (c.loop-at.at + 1) c.args.traces.now)) rs c.audit_at.new.node)
    (sym (taken_next c.args.results.now c.loop-at.at r c.in_ok-meant.meant (omega (arith, size)) same))
    (along_next c.nodes_are_known_in_one_way.ensures c.args.costs.now c.args.file.now c.args.traces.now c.loop-at.at (omega (arith, size)) (omega (arith, size)) (take c.loop-at.at c.args.results.now) c.loop-at.node c.loop-at.invariant c.in_ok-meant.meant c.audit_at.new.node c.in_ok-meant.ensures.right)

pub returns-clause-right : goal.returns-clause-right
returns-clause-right c =
    let size = ap length c.entries-count.ensures.value in
    audited_taken c.args.costs.now c.args.file.now c.args.traces.now c.args.results.now (take c.loop-at.at c.args.results.now) c.loop-at.node c.loop-at.at (omega (arith, size)) (omega (arith, size)) (all_taken c.args.results.now c.loop-at.at (omega (arith, size))) c.loop-at.invariant

pub returns-in_err-meant-clause-traced : goal.returns-in_err-meant-clause-traced
returns-in_err-meant-clause-traced c =
    let size = ap length c.entries-count.ensures.value in
    passes c.from_residual-in_err-meant.result c.in_err-meant.field-0.0
    (λ why h. has_traces c.args.file.now c.args.traces.now (omega (arith, size)) why)
    c.from_residual-in_err-meant.ensures.1 c.in_err-meant.ensures.refused

pub returns-then-not-equal_results-clause-traced : goal.returns-then-not-equal_results-clause-traced
returns-then-not-equal_results-clause-traced c =
    let size = ap length c.entries-count.ensures.value in
    omega (arith, size)

pub returns-in_err-meant-clause-counted : goal.returns-in_err-meant-clause-counted
returns-in_err-meant-clause-counted c =
    let size = ap length c.entries-count.ensures.value in
    passes c.from_residual-in_err-meant.result c.in_err-meant.field-0.0
    (λ why h. has_results c.args.file.now c.args.results.now (omega (arith, size)) why)
    c.from_residual-in_err-meant.ensures.1 c.in_err-meant.ensures.refused

pub returns-then-not-equal_results-clause-counted : goal.returns-then-not-equal_results-clause-counted
returns-then-not-equal_results-clause-counted c =
    let size = ap length c.entries-count.ensures.value in
    omega (arith, size)
