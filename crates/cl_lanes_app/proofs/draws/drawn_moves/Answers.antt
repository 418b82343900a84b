use Rattle.cl_lanes_app.proofs.Drawing.{drawn_first, drawn_next}
use Rattle.cl_lanes_app.proofs.draws.drawn_moves.Goals as goal

pub loop-init : goal.loop-init
loop-init c = drawn_first c.args.lanes c.args.seed c.new-draws.result c.in_ok-moves.moves.items c.new-draws.ensures c.in_ok-moves.ensures.items

pub loop-preserved : goal.loop-preserved
loop-preserved c =
    drawn_next c.args.lanes c.args.seed c.loop.counter c.loop.draws c.next_draw-draw.new.self c.next_draw-draw.result c.loop.moves.items c.push.new.self.items c.move_for.result c.loop.invariant
    c.next_draw-draw.ensures.number c.next_draw-draw.ensures.draw c.move_for.ensures c.in_ok-push.ensures.items
