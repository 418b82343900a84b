use Rattle.std.proofs.Common.{ℕ, ◌<◌, ◌++◌, List, length, get_or, Some, None, ◌≡◌, sym, subst, ◌∙◌, ap}
use Rattle.std.proofs.lemmas.Option.{slice_get-get_or}
use Rattle.cl_code.specs.declared.definition.Definition.{Definition}
use Rattle.cl_tx.specs.Rebounds.{rebound_line}
use Rattle.cl_tx.specs.declared.outcome.Rebound.{Rebound}
use Rattle.cl_bound.proofs.Lines.{lines_of, line_next, line_more, line_past}
use Rattle.cl_bound.proofs.block.push_lines.Goals as goal
use Rattle.cl_bound.proofs.block.push_lines.Goals.{in-Some+in_ok-push, in_default}

pub loop-definition-preserved : goal.loop-definition-preserved
loop-definition-preserved c table fs shows returns =
    let all : List Definition = c.args.parts.now.definitions.items in
    let whole : List Rebound = c.args.lines.now.items ++ lines_of (rebound_line table c.args.parts.now.principal fs) all in
    let i : ℕ = c.loop-definition.definition-index in
    let d : Definition = c.definition-item.result in
    let lt : i < length all = subst (λ (ds : List Definition). i < length ds) c.deref-definition-items.ensures.value c.loop-definition-test.true in
    let at : get_or all i d ≡ d = subst (λ (ds : List Definition). get_or ds i d ≡ d) c.deref-definition-items.ensures.value (sym c.definition-item.is) in
    let here = c.in_ok-line.ensures table fs shows (returns i d (slice_get-get_or all i d lt ∙ ap Some at)) in
    elim c.match-branch-2.branch [
      | in-Some+in_ok-push w ↦
          line_more (rebound_line table c.args.parts.now.principal fs) c.args.parts.now.definitions.items (c.args.lines.now.items ++ lines_of (rebound_line table c.args.parts.now.principal fs) c.args.parts.now.definitions.items) c.loop-definition.definition-index w.in-Some.line c.loop-definition.lines.items c.match-branch-2.lines.items
          ((λ j. (w.lines-is j).items) ∙ w.in_ok-push.ensures.items)
          (line_next (rebound_line table c.args.parts.now.principal fs) all whole i d (Some w.in-Some.line) c.loop-definition.lines.items lt at (sym w.in-Some.is ∙ here) (c.loop-definition.invariant table fs shows returns))
      | in_default w ↦
          line_past (rebound_line table c.args.parts.now.principal fs) all whole i c.loop-definition.lines.items c.match-branch-2.lines.items (λ j. (w.lines-is j).items)
          (line_next (rebound_line table c.args.parts.now.principal fs) all whole i d None c.loop-definition.lines.items lt at (sym w.in_default.is ∙ here) (c.loop-definition.invariant table fs shows returns))
    ]
