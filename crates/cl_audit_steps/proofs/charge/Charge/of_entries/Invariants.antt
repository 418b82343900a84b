use Rattle.std.proofs.Common.{◌≡◌, ◌<◌, ◌+◌, ◌^◌, drop, map}
use Rattle.cl_meaning.specs.Scope.{sizes}
use Rattle.cl_audit_steps.proofs.charge.Charge.of_entries.Given as goal

abbrev pub invariant-loop-entry : goal.invariant-loop-entry
invariant-loop-entry l = record { sum : l.total + sizes (map (λ e. e.1) (drop l.entry-index l.entries)) ≡ sizes (map (λ e. e.1) l.entries); small : l.total < 2 ^ 40 }
