use Rattle.std.proofs.Common.{◌<◌, ◌≤◌, length, List, subst}
use Rattle.cl_file.specs.Entries.{NeverFall}
use Rattle.cl_lanes.proofs.AllMade.{next_rises}
use Rattle.cl_lanes.proofs.DoneInTurn.{next_so, ran_rest}
use Rattle.cl_lanes.proofs.in_turn.do_rest.Goals as goal

pub do_next-requires-clause-next : goal.do_next-requires-clause-next
do_next-requires-clause-next c =
    let r = c.loop-place.invariant.reached in
    let below : c.loop-place.place < length c.args.file.now.entries = subst (λ (es : List _). c.loop-place.place < length es) c.entries-entries.ensures.value c.loop-place-test.true in
    next_so c.args.costs.now c.args.file.now c.args.progress.now c.loop-place.progress c.loop-place.place c.loop-place.invariant below
    (next_rises c.lanes_run_the_entries.ensures.entries c.heights_are_those_of_the_file.ensures c.args.costs.now c.args.file.now r.lanes r.moves c.loop-place.progress (subst (NeverFall 0) c.entries-entries.ensures.value c.entries-entries.ensures.rising) r.made)

pub returns : goal.returns
returns c =
    ran_rest c.args.costs.now c.args.file.now c.args.progress.now c.loop-place.progress c.loop-place.place c.loop-place.invariant
    (subst (λ (es : List _). length es ≤ c.loop-place.place) c.entries-entries.ensures.value c.loop-place-test.false)
