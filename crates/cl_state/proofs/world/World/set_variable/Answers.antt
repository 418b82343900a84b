use Rattle.std.proofs.Common.{◌∙◌, ap, length}
use Rattle.std.specs.Prelude.{reverse}
use Rattle.std.proofs.lemmas.Result.{IfOk-weaker}
use Rattle.cl_maps.specs.Maps.{put}
use Rattle.cl_events.specs.State.{place, with_variables}
use Rattle.cl_state.specs.Stack.{with_top}
use Rattle.cl_state.specs.Rows.{stack_of}
use Rattle.cl_state.proofs.Layers.{written_law, removed_or_not}
use Rattle.cl_state.proofs.world.World.set_variable.Goals as goal

pub returns-clause-done : goal.returns-clause-done
returns-clause-done c =
    let p = c.self.inside.history in
    let es = c.self.inside.events.items in
    let ms = c.self.inside.moves.items in
    let marks = reverse c.self.inside.marks.items in
    let at = place c.args.at.now.contract c.args.at.now.name in
    IfOk-weaker c.set_variable.result _ _ (λ found done yes.
    written_law p c.set_variable.new.self (with_variables (put at c.args.value p.state.variables) p.state) c.floor_of-floor.result marks es ms (done yes) c.floor_of-floor.ensures c.self.invariant
    ∙ ap (λ s. with_top s.stack (with_variables (put at c.args.value s.stack.top.variables) s.stack.top)) c.self.view_is)
    c.set_variable.ensures.done

pub returns-clause-absent : goal.returns-clause-absent
returns-clause-absent c =
    IfOk-weaker c.set_variable.result _ _ (λ found same no. ap (λ q. stack_of q (reverse c.self.inside.marks.items) c.self.inside.events.items c.self.inside.moves.items) (same no) ∙ ap (λ s. s.stack) c.self.view_is) c.set_variable.ensures.absent

pub invariant_of-self : goal.invariant_of-self
invariant_of-self c =
    let p = c.self.inside.history in
    let at = place c.args.at.now.contract c.args.at.now.name in
    removed_or_not c.set_variable.result p c.set_variable.new.self (with_variables (put at c.args.value p.state.variables) p.state) c.floor_of-floor.result (length c.self.inside.events.items) (length c.self.inside.moves.items)
    (reverse c.self.inside.marks.items) c.set_variable.ensures.done c.set_variable.ensures.absent c.set_variable.ensures.refused c.floor_of-floor.ensures c.self.invariant
