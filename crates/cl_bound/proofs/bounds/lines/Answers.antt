use Rattle.std.proofs.Common.{◌≡◌, ℕ, ◌<◌, List, length, get_or, Some, None, sym, subst, ◌∙◌}
use Rattle.cl_code.specs.declared.definition.Definition.{Definition}
use Rattle.cl_costs.specs.Tables.{function_of}
use Rattle.cl_tx.specs.Step.{bound_line}
use Rattle.cl_bound.proofs.Lines.{lines_of, one_within, line_next, line_more, line_past}
use Rattle.cl_bound.proofs.bounds.lines.Goals as goal
use Rattle.cl_bound.proofs.bounds.lines.Goals.{in-Some+in_ok-push, in_default}

pub loop-definition-preserved : goal.loop-definition-preserved
loop-definition-preserved c D shows bounded =
    let i : ℕ = c.loop-definition.definition-index in
    let d : Definition = c.definition-item.result in
    let lt : i < length c.args.parts.now.definitions.items = subst (λ (ds : List Definition). i < length ds) c.deref-definition-items.ensures.value c.loop-definition-test.true in
    let at : get_or c.args.parts.now.definitions.items i d ≡ d = subst (λ (ds : List Definition). get_or ds i d ≡ d) c.deref-definition-items.ensures.value (sym c.definition-item.is) in
    let here = c.line.ensures D shows (one_within c.args.parts.now (function_of c.args.prices.now.costs) D i d lt at bounded) in
    elim c.match-line.branch [
      | in-Some+in_ok-push w ↦
          line_more (bound_line (function_of c.args.prices.now.costs) D) c.args.parts.now.definitions.items (lines_of (bound_line (function_of c.args.prices.now.costs) D) c.args.parts.now.definitions.items) i w.in-Some.line c.loop-definition.lines.items c.match-line.lines.items
          ((λ j. (w.lines-is j).items) ∙ w.in_ok-push.ensures.items)
          (line_next (bound_line (function_of c.args.prices.now.costs) D) c.args.parts.now.definitions.items (lines_of (bound_line (function_of c.args.prices.now.costs) D) c.args.parts.now.definitions.items) i d (Some w.in-Some.line) c.loop-definition.lines.items lt at (sym w.in-Some.is ∙ here) (c.loop-definition.invariant D shows bounded))
      | in_default w ↦
          line_past (bound_line (function_of c.args.prices.now.costs) D) c.args.parts.now.definitions.items (lines_of (bound_line (function_of c.args.prices.now.costs) D) c.args.parts.now.definitions.items) i c.loop-definition.lines.items c.match-line.lines.items (λ j. (w.lines-is j).items)
          (line_next (bound_line (function_of c.args.prices.now.costs) D) c.args.parts.now.definitions.items (lines_of (bound_line (function_of c.args.prices.now.costs) D) c.args.parts.now.definitions.items) i d None c.loop-definition.lines.items lt at (sym w.in_default.is ∙ here) (c.loop-definition.invariant D shows bounded))
    ]
