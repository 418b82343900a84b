use Rattle.std.proofs.Common.{refl}
use Rattle.cl_values.specs.Tuples.{part_at}
use Rattle.cl_audit_steps.proofs.ValueLaws.{charged_as}
use Rattle.cl_audit_steps.proofs.values.part_taken.Goals as goal

pub returns : goal.returns
returns c S take enter s = charged_as _ _ _ _ _ _ _ S take enter s refl c.of-charge.ensures (c.in_ok-computed_last.ensures (part_at c.args.key.now c.args.value) c.try_get.ensures S take enter s) c.charged_end.ensures
