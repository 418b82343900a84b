use Rattle.std.proofs.Common.{◌-◌, ◌+◌, ◌≤◌, length, vec_len, vec_capacity}
use Rattle.cl_listeners.specs.Hearing.{heard_by}
use Rattle.cl_listeners.proofs.Underway.{Underway}
use Rattle.cl_listeners.proofs.telling.dispatch.Given as goal

abbrev pub decreases-loop-i : goal.decreases-loop-i
decreases-loop-i g l = length l.listeners-inside.active.items - l.i

abbrev pub invariant-loop-i : goal.invariant-loop-i
invariant-loop-i g l = record {
  room : vec_len l.listeners-inside.active + vec_len l.listeners-inside.deaf ≤ vec_capacity l.listeners-inside.deaf;
  within : l.i ≤ length l.listeners-inside.active.items;
  told : Underway (λ n. heard_by n.number (g.L.Listener.heard n.listener) (g.L.Listener.faults n.listener)) l.events
      l.initial.listeners-inside.active.items l.initial.listeners-inside.deaf.items l.listeners-inside.active.items l.listeners-inside.deaf.items l.i;
}
