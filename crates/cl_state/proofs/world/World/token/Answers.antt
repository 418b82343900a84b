use Rattle.std.proofs.Common.{◌∙◌, ap, ◌++◌, ◌∷◌, []}
use Rattle.std.specs.Prelude.{reverse, option_to_list}
use Rattle.cl_state.proofs.Layers.{moved_falls}
use Rattle.cl_state.proofs.TokenActs.{the_event, change_meant, token_refused, token_done}
use Rattle.cl_state.proofs.world.World.token.Goals as goal

pub act-requires : goal.act-requires
act-requires c =
    change_meant c.args.act.contract c.args.act.kind c.args.self.now c.self.inside.history (reverse c.self.inside.marks.items) c.self.inside.events.items c.self.inside.moves.items (ap (λ s. s.stack) c.self.view_is) c.requires

pub returns-in_err-act-clause-acts : goal.returns-in_err-act-clause-acts
returns-in_err-act-clause-acts c =
    token_refused c.args.act.contract c.args.act.kind c.args.self.now c.self.inside.history c.act.new.self (reverse c.self.inside.marks.items) c.self.inside.events.items c.reserve.new.self.items c.self.inside.moves.items c.reserve-2.new.self.items
    c.in_err-act.field-0.0 c.from_residual-in_err-act.result c.in_err-act.ensures c.in_ok-reserve.ensures.items c.in_ok-reserve-2.ensures.items (ap (λ s. s.stack) c.self.view_is) c.from_residual-in_err-act.ensures.1

pub invariant_of-self-2 : goal.invariant_of-self-2
invariant_of-self-2 c =
    let event = the_event c.args.act.contract c.args.act.kind in
    moved_falls c.self.inside.history c.act.new.self c.in_ok-act.ensures.0 (reverse c.self.inside.marks.items) c.self.inside.events.items c.tell.new.events.items c.self.inside.moves.items c.tell.new.moves.items event
    (option_to_list c.in_ok-gone.gone) c.in_ok-act.ensures.2
    (c.tell.ensures.told ∙ ap (λ xs. xs ++ event ∷ []) c.in_ok-reserve.ensures.items) (c.tell.ensures.moved ∙ ap (λ xs. xs ++ option_to_list c.in_ok-gone.gone) c.in_ok-reserve-2.ensures.items) c.self.invariant

pub returns-clause-acts : goal.returns-clause-acts
returns-clause-acts c =
    let event = the_event c.args.act.contract c.args.act.kind in
    token_done c.args.act.contract c.args.act.kind c.args.self.now c.self.inside.history c.act.new.self (reverse c.self.inside.marks.items) c.self.inside.events.items c.tell.new.events.items c.self.inside.moves.items c.tell.new.moves.items
    c.in_ok-gone.gone c.in_ok-act.ensures c.in_ok-gone.ensures
    (c.tell.ensures.told ∙ ap (λ xs. xs ++ event ∷ []) c.in_ok-reserve.ensures.items) (c.tell.ensures.moved ∙ ap (λ xs. xs ++ option_to_list c.in_ok-gone.gone) c.in_ok-reserve-2.ensures.items)
    (ap (λ s. s.stack) c.self.view_is) c.self.invariant
