use Rattle.std.proofs.Common.{◌≡◌, ◌+◌, ◌<◌, ◌≤◌, Some, None, length, drop, w64, sym, ap, subst, ◌∙◌, arith}
use Rattle.std.proofs.Math.Facts.{Fits-of_lt}
use Rattle.cl_audit_reply.specs.Verdicts.{prefix_apart}
use Rattle.cl_audit_reply.proofs.Apart.{IsSoFar, place_within, so_far_more, so_far_next, so_far_parts, told_apart}
use Rattle.cl_audit_reply.proofs.comparing.report_apart.Goals as goal

pub overflow_add-result : goal.overflow_add-result
overflow_add-result c =
    let apart : prefix_apart c.in_ok-lines.lines.items (drop c.loop-number.done c.args.text.now) ≡ Some c.in-Some.at = told_apart c.in_ok-lines.lines.items c.deref.result.now c.args.text.now c.loop-number.done c.prefix_apart.result (Some c.in-Some.at) c.deref.ensures.value c.prefix_apart.ensures c.in-Some.is in
    let within : c.loop-number.done + c.in-Some.at ≤ length c.args.text.now = place_within c.in_ok-lines.lines.items c.args.text.now c.loop-number.done c.in-Some.at c.loop-number.invariant.within apart in
    Fits-of_lt {w = w64} {n = c.loop-number.done + c.in-Some.at} (omega (arith, within))

pub returns-in-Some : goal.returns-in-Some
returns-in-Some c =
    let apart : prefix_apart c.in_ok-lines.lines.items (drop c.loop-number.done c.args.text.now) ≡ Some c.in-Some.at = told_apart c.in_ok-lines.lines.items c.deref.result.now c.args.text.now c.loop-number.done c.prefix_apart.result (Some c.in-Some.at) c.deref.ensures.value c.prefix_apart.ensures c.in-Some.is in
    sym (so_far_parts c.args.text.now c.args.entries.now c.args.results.now c.loop-number.number c.loop-number.done c.loop-number.invariant c.index-entries-number.result c.index-results-number.result c.loop-number-test.true (omega (arith, c.requires.results)) c.index-entries-number.is c.index-results-number.is
    c.in_ok-lines.lines.items c.in-Some.at c.in_ok-lines.ensures apart)

pub loop-number-preserved : goal.loop-number-preserved
loop-number-preserved c =
    let same : prefix_apart c.in_ok-lines.lines.items (drop c.loop-number.done c.args.text.now) ≡ None = told_apart c.in_ok-lines.lines.items c.deref.result.now c.args.text.now c.loop-number.done c.prefix_apart.result None c.deref.ensures.value c.prefix_apart.ensures c.in_default.is in
    subst (λ n. IsSoFar c.args.text.now c.args.entries.now c.args.results.now (c.loop-number.number + 1) (c.loop-number.done + n)) (sym (c.len-done.ensures ∙ c.in_ok-lines.lines.ok.0))
    (so_far_next c.args.text.now c.args.entries.now c.args.results.now c.loop-number.number c.loop-number.done c.loop-number.invariant c.index-entries-number.result c.index-results-number.result c.loop-number-test.true (omega (arith, c.requires.results)) c.index-entries-number.is c.index-results-number.is
    c.in_ok-lines.lines.items c.in_ok-lines.ensures same)

pub returns-then-done-text : goal.returns-then-done-text
returns-then-done-text c = sym (so_far_more c.args.text.now c.args.entries.now c.args.results.now c.loop-number.number c.loop-number.done c.loop-number.invariant c.loop-number-test.false c.if-done-text.true)
