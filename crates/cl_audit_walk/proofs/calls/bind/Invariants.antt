use Rattle.std.proofs.Common.{◌≡◌}
use Rattle.cl_audit_walk.proofs.Applying.{Binding}
use Rattle.cl_audit_walk.proofs.calls.bind.Given as goal

abbrev pub invariant-loop-place : goal.invariant-loop-place
invariant-loop-place l = record {
  leads : Binding l.scope l.params l.values l.place l.own l.initial.run l.run;
  world : l.run.world.stack ≡ l.initial.run.world.stack;
}
