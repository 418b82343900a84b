use Rattle.cl_touch_sound.specs.Calls.{IsCall}
use Rattle.cl_lanes.proofs.DoneInTurn.{tried_counts, call_done, barrier_done, next_is_call, next_no_call}
use Rattle.cl_lanes.proofs.in_turn.do_next.Goals as goal

pub commit-requires : goal.commit-requires
commit-requires c =
    let found = c.in-Some.ensures.found in
    let call : IsCall c.requires.next.entry = next_is_call c.args.costs.now c.args.file.now c.args.progress.now c.requires.next c.results-place.result.now c.results-place.ensures.value c.in-Some.field-0.now found.0 found.1 in
    tried_counts c.args.costs.now c.args.file.now c.args.progress.now c.run.new.self c.requires.next call c.in_ok-run-in-Some.ensures.moved c.requires.counts

pub returns-in_ok-commit-in-Some : goal.returns-in_ok-commit-in-Some
returns-in_ok-commit-in-Some c =
    let found = c.in-Some.ensures.found in
    let call : IsCall c.requires.next.entry = next_is_call c.args.costs.now c.args.file.now c.args.progress.now c.requires.next c.results-place.result.now c.results-place.ensures.value c.in-Some.field-0.now found.0 found.1 in
    call_done c.args.costs.now c.args.file.now c.lanes_run_the_entries.ensures.entries c.args.progress.now c.run.new.self c.commit.new.self c.requires.next call c.in_ok-run-in-Some.ensures.moved
    (c.in_ok-commit-in-Some.ensures.moved c.args.costs.now c.args.file.now.entries)

pub returns-in_ok-barrier-in-None : goal.returns-in_ok-barrier-in-None
returns-in_ok-barrier-in-None c =
    barrier_done c.args.costs.now c.args.file.now c.args.progress.now c.barrier.new.self c.requires.next
    (next_no_call c.args.costs.now c.args.file.now c.args.progress.now c.requires.next c.results-place.result.now c.results-place.ensures.value c.in-None.ensures.none)
    c.in_ok-barrier-in-None.ensures.moved
