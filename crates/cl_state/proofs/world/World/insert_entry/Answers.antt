use Rattle.std.proofs.Common.{◌∙◌, ap, length}
use Rattle.std.specs.Prelude.{reverse}
use Rattle.std.proofs.lemmas.Result.{IfOk-weaker}
use Rattle.cl_maps.specs.Maps.{put}
use Rattle.cl_events.specs.State.{spot, with_entries}
use Rattle.cl_state.specs.Stack.{with_top}
use Rattle.cl_state.specs.Rows.{stack_of}
use Rattle.cl_state.proofs.Layers.{written_law, removed_or_not}
use Rattle.cl_state.proofs.world.World.insert_entry.Goals as goal

pub returns-clause-done : goal.returns-clause-done
returns-clause-done c =
    let p = c.self.inside.history in
    let es = c.self.inside.events.items in
    let ms = c.self.inside.moves.items in
    let marks = reverse c.self.inside.marks.items in
    let at = spot c.args.at.now.contract c.args.at.now.name c.args.key.now in
    IfOk-weaker c.insert_entry.result _ _ (λ found done yes.
    written_law p c.insert_entry.new.self (with_entries (put at c.args.value p.state.entries) p.state) c.floor_of-floor.result marks es ms (done yes) c.floor_of-floor.ensures c.self.invariant
    ∙ ap (λ s. with_top s.stack (with_entries (put at c.args.value s.stack.top.entries) s.stack.top)) c.self.view_is)
    c.insert_entry.ensures.done

pub returns-clause-there : goal.returns-clause-there
returns-clause-there c =
    IfOk-weaker c.insert_entry.result _ _ (λ found same no. ap (λ q. stack_of q (reverse c.self.inside.marks.items) c.self.inside.events.items c.self.inside.moves.items) (same no) ∙ ap (λ s. s.stack) c.self.view_is) c.insert_entry.ensures.there

pub invariant_of-self : goal.invariant_of-self
invariant_of-self c =
    let p = c.self.inside.history in
    let at = spot c.args.at.now.contract c.args.at.now.name c.args.key.now in
    removed_or_not c.insert_entry.result p c.insert_entry.new.self (with_entries (put at c.args.value p.state.entries) p.state) c.floor_of-floor.result (length c.self.inside.events.items) (length c.self.inside.moves.items)
    (reverse c.self.inside.marks.items) c.insert_entry.ensures.done c.insert_entry.ensures.there c.insert_entry.ensures.refused c.floor_of-floor.ensures c.self.invariant
