use Rattle.std.proofs.Common.{◌≡◌, ◌+◌}
use Rattle.cl_app.specs.Top.{left_of}
use Rattle.cl_app.proofs.Stepping.{Comes}
use Rattle.cl_app.proofs.steps.do_steps.Given as goal

abbrev pub invariant-loop : goal.invariant-loop
invariant-loop g l = record {
  comes : Comes l.initial.steps l.steps (g.K.Sink.written l.initial.out) (g.K.Sink.written l.out) l.initial.listeners l.listeners;
  left : l.counter + left_of l.steps ≡ left_of l.initial.steps;
  faults : g.K.Sink.faults l.out ≡ g.K.Sink.faults l.initial.out;
}
