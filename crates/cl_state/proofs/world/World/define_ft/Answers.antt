use Rattle.std.proofs.Common.{◌∙◌, ap, length}
use Rattle.std.specs.Prelude.{reverse}
use Rattle.std.proofs.lemmas.Result.{on_ok_weaker}
use Rattle.cl_maps.specs.Maps.{put, get}
use Rattle.cl_tokens.specs.Ledger.{no_tokens}
use Rattle.cl_events.specs.State.{with_fungibles}
use Rattle.cl_tables.specs.Variables.{key_of}
use Rattle.cl_state.specs.Stack.{with_top}
use Rattle.cl_state.specs.Rows.{stack_of}
use Rattle.cl_state.proofs.Layers.{changed_law, changed_or_not}
use Rattle.cl_state.proofs.world.World.define_ft.Goals as goal

pub define_fungible-requires : goal.define_fungible-requires
define_fungible-requires c = ap (λ s. get (key_of c.args.at.now) s.stack.top.fungibles) c.self.view_is ∙ c.requires

pub returns-clause-done : goal.returns-clause-done
returns-clause-done c =
    let p = c.self.inside.history in
    let es = c.self.inside.events.items in
    let ms = c.self.inside.moves.items in
    let marks = reverse c.self.inside.marks.items in
    on_ok_weaker c.define_fungible.result (λ done.
    ap (λ q. stack_of q marks es ms) done
    ∙ changed_law p (with_fungibles (put (key_of c.args.at.now) (no_tokens c.args.cap) p.state.fungibles) p.state) marks es ms c.self.invariant
    ∙ ap (λ s. with_top s.stack (with_fungibles (put (key_of c.args.at.now) (no_tokens c.args.cap) s.stack.top.fungibles) s.stack.top)) c.self.view_is)
    c.define_fungible.ensures.done

pub invariant_of-self : goal.invariant_of-self
invariant_of-self c =
    let p = c.self.inside.history in
    changed_or_not c.define_fungible.result p c.define_fungible.new.self (with_fungibles (put (key_of c.args.at.now) (no_tokens c.args.cap) p.state.fungibles) p.state) (length c.self.inside.events.items) (length c.self.inside.moves.items)
    (reverse c.self.inside.marks.items) c.define_fungible.ensures.done c.define_fungible.ensures.refused c.self.invariant
