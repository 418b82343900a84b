use Rattle.std.proofs.Common.{◌≡◌, ◌≤◌, drop}
use Rattle.cl_frames.specs.Watching.{watched, amount}
use Rattle.cl_frames.specs.Deploys.{AreNew, all_by, costs_of}
use Rattle.cl_runs.proofs.top.define_all.Given as goal

abbrev pub invariant-loop-place : goal.invariant-loop-place
invariant-loop-place g l = record {
  so_far :
      watched (costs_of l.deploying) l.initial.meter (g.W.Watch.seen l.initial.watch) (all_by l.deploying l.places l.initial.constants.entries l.initial.world.stack.top)
      ≡ watched (costs_of l.deploying) l.meter (g.W.Watch.seen l.watch) (all_by l.deploying (drop l.place-index l.places) l.constants.entries l.world.stack.top);
  new : AreNew l.deploying.checked.now l.place-index l.constants.entries l.world.stack.top;
  grew : amount (g.W.Watch.seen l.initial.watch) ≤ amount (g.W.Watch.seen l.watch);
  below : l.world.stack.below ≡ l.initial.world.stack.below;
}
