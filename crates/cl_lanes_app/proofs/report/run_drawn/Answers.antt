use Rattle.std.proofs.Common.{◌≡◌, ◌*◌, List, length, ap, ◌∙◌, arith}
use Rattle.cl_file.specs.declared.entry.Entry.{Entry}
use Rattle.cl_lanes_app.specs.Words.{request_seen}
use Rattle.cl_lanes.specs.declared.moves.Move.{Move}
use Rattle.cl_lanes_app.proofs.Drawing.{drawn_length}
use Rattle.cl_lanes_app.proofs.Ran.{ran_drawn}
use Rattle.cl_lanes_app.proofs.report.run_drawn.Goals as goal

pub run_in_lanes-requires-clause-few : goal.run_in_lanes-requires-clause-few
run_in_lanes-requires-clause-few c =
    let count = 2 * length c.entries-entries.result.now in
    let drawn : length c.as_slice.result.now ≡ count = ap (λ (moves : List Move). length moves) (c.as_slice.ensures.value ∙ c.in_ok-moves.ensures) ∙ drawn_length c.args.request.now.lanes c.args.request.now.seed count in
    let few = c.entries-entries.ensures.within in
    omega (arith, drawn, few)

pub returns : goal.returns
returns c =
    ran_drawn (request_seen c.args.request.now) c.args.costs.now c.args.file.now c.in_ok-schedule.schedule (2 * length c.entries-entries.result.now) c.as_slice.result.now c.in_ok-progress.progress c.in_ok-schedule.ensures (c.as_slice.ensures.value ∙ c.in_ok-moves.ensures)
    (ap (λ (es : List Entry). 2 * length es) c.entries-entries.ensures.value) c.in_ok-progress.ensures.moved c.in_ok-progress.ensures.entries
