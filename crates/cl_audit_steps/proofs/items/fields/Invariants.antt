use Rattle.std.proofs.Common.{◌≡◌, ◌++◌, drop}
use Rattle.cl_audit_steps.specs.Items.{fields_seen}
use Rattle.cl_audit_steps.proofs.items.fields.Given as goal

abbrev pub invariant-loop-pair : goal.invariant-loop-pair
invariant-loop-pair l = fields_seen l.fields.items ++ drop l.pair-index l.pairs ≡ l.pairs
