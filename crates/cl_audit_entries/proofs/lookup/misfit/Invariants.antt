use Rattle.std.proofs.Common.{◌≡◌, drop}
use Rattle.cl_tx.specs.Step.{first_misfit}
use Rattle.cl_audit_entries.proofs.lookup.misfit.Given as goal

abbrev pub invariant-loop-index : goal.invariant-loop-index
invariant-loop-index l = first_misfit 0 l.params l.args ≡ first_misfit l.index (drop l.index l.params) (drop l.index l.args)
