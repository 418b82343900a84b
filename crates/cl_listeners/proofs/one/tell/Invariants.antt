use Rattle.std.proofs.Common.{◌≡◌, take}
use Rattle.cl_listeners.specs.Hearing.{with_more}
use Rattle.cl_listeners.proofs.one.tell.Given as goal

abbrev pub invariant-loop-i : goal.invariant-loop-i
invariant-loop-i g l = record {
  heard : g.L.Listener.heard l.listener ≡ with_more (take l.i l.events) (g.L.Listener.heard l.initial.listener);
  faults : g.L.Listener.faults l.listener ≡ g.L.Listener.faults l.initial.listener;
}
