use Rattle.std.proofs.Common.{◌∙◌, ap, length}
use Rattle.std.specs.Prelude.{reverse}
use Rattle.std.proofs.lemmas.Result.{on_ok_weaker}
use Rattle.cl_maps.specs.Maps.{put, get, empty}
use Rattle.cl_events.specs.State.{with_nonfungibles}
use Rattle.cl_tables.specs.Variables.{key_of}
use Rattle.cl_state.specs.Stack.{with_top}
use Rattle.cl_state.specs.Rows.{stack_of}
use Rattle.cl_state.proofs.Layers.{changed_law, changed_or_not}
use Rattle.cl_state.proofs.world.World.define_nft.Goals as goal

pub define_nonfungible-requires : goal.define_nonfungible-requires
define_nonfungible-requires c = ap (λ s. get (key_of c.args.at.now) s.stack.top.nonfungibles) c.self.view_is ∙ c.requires

pub returns-clause-done : goal.returns-clause-done
returns-clause-done c =
    let p = c.self.inside.history in
    let es = c.self.inside.events.items in
    let ms = c.self.inside.moves.items in
    let marks = reverse c.self.inside.marks.items in
    on_ok_weaker c.define_nonfungible.result (λ done.
    ap (λ q. stack_of q marks es ms) done
    ∙ changed_law p (with_nonfungibles (put (key_of c.args.at.now) empty p.state.nonfungibles) p.state) marks es ms c.self.invariant
    ∙ ap (λ s. with_top s.stack (with_nonfungibles (put (key_of c.args.at.now) empty s.stack.top.nonfungibles) s.stack.top)) c.self.view_is)
    c.define_nonfungible.ensures.done

pub invariant_of-self : goal.invariant_of-self
invariant_of-self c =
    let p = c.self.inside.history in
    changed_or_not c.define_nonfungible.result p c.define_nonfungible.new.self (with_nonfungibles (put (key_of c.args.at.now) empty p.state.nonfungibles) p.state) (length c.self.inside.events.items) (length c.self.inside.moves.items)
    (reverse c.self.inside.marks.items) c.define_nonfungible.ensures.done c.define_nonfungible.ensures.refused c.self.invariant
