use Rattle.std.proofs.Common.{ℕ, Some, None, sym, ◌∙◌}
use Rattle.cl_code.specs.declared.definition.Definition.{Definition}
use Rattle.cl_bound.specs.Reaches.{reach_line}
use Rattle.cl_bound.proofs.Lines.{lines_of, line_next, line_more, line_past}
use Rattle.cl_bound.proofs.repricing.reaches.Goals as goal
use Rattle.cl_bound.proofs.repricing.reaches.Goals.{in-Some+in_ok-push, in_default}

pub loop-definition-preserved : goal.loop-definition-preserved
loop-definition-preserved c table D shows =
    let i : ℕ = c.loop-definition.definition-index in
    let d : Definition = c.definition-item.result in
    let here = c.reach_line.ensures table D shows in
    elim c.match-reach_line.branch [
      | in-Some+in_ok-push w ↦
          line_more (reach_line table D) c.args.definitions.now (lines_of (reach_line table D) c.args.definitions.now) i w.in-Some.line c.loop-definition.reaches.items c.match-reach_line.reaches.items
          ((λ j. (w.reaches-is j).items) ∙ w.in_ok-push.ensures.items)
          (line_next (reach_line table D) c.args.definitions.now (lines_of (reach_line table D) c.args.definitions.now) i d (Some w.in-Some.line) c.loop-definition.reaches.items c.loop-definition-test.true (sym c.definition-item.is) (sym w.in-Some.is ∙ here) (c.loop-definition.invariant table D shows))
      | in_default w ↦
          line_past (reach_line table D) c.args.definitions.now (lines_of (reach_line table D) c.args.definitions.now) i c.loop-definition.reaches.items c.match-reach_line.reaches.items (λ j. (w.reaches-is j).items)
          (line_next (reach_line table D) c.args.definitions.now (lines_of (reach_line table D) c.args.definitions.now) i d None c.loop-definition.reaches.items c.loop-definition-test.true (sym c.definition-item.is) (sym w.in_default.is ∙ here) (c.loop-definition.invariant table D shows))
    ]
