use Rattle.std.proofs.Common.{arith}
use Rattle.cl_lanes.proofs.DoneInTurn.{reached_so, counted_so, ends_as, ran_all}
use Rattle.cl_lanes.proofs.in_turn.run_in_lanes.Goals as goal

pub do_rest-requires-clause-counts : goal.do_rest-requires-clause-counts
do_rest-requires-clause-counts c =
    let all = counted_so c.args.costs.now c.args.file.now c.args.count c.args.moves.now c.in_ok-progress.progress c.in_ok-progress.ensures.moved in
    let few = c.requires.few in
    record { redone = omega (arith, all, few); skipped = omega (arith, all, few) }

pub do_rest-requires-clause-reached : goal.do_rest-requires-clause-reached
do_rest-requires-clause-reached c =
    reached_so c.args.costs.now c.args.file.now c.args.count c.args.moves.now c.in_ok-progress.progress c.requires.some c.in_ok-progress.ensures.moved c.in_ok-progress.ensures.entries

pub returns : goal.returns
returns c =
    let rest = c.in_ok-do_rest.ensures in
    record {
      moved = ends_as c.args.costs.now c.args.file.now c.args.count c.args.moves.now c.in_ok-progress.progress c.do_rest.new.progress c.in_ok-progress.ensures.moved rest;
      entries = ran_all c.args.costs.now c.args.file.now c.lanes_run_the_entries.ensures.entries c.in_ok-progress.progress c.do_rest.new.progress rest;
    }
