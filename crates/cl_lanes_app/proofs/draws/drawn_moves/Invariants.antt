use Rattle.cl_lanes_app.proofs.Drawing.{IsDrawn}
use Rattle.cl_lanes_app.proofs.draws.drawn_moves.Given as goal

abbrev pub invariant-loop : goal.invariant-loop
invariant-loop l = IsDrawn l.lanes l.fn.seed l.counter l.draws l.moves.items
