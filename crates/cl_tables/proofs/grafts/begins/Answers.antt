use Rattle.std.proofs.Common.{◌∙◌}
use Rattle.std.specs.Prelude.{nat_eq}
use Rattle.std.specs.List.{starts_with}
use Rattle.cl_tables.proofs.Joined.{begins_by}
use Rattle.cl_tables.proofs.grafts.begins.Goals as goal

pub returns : goal.returns
returns c = c.starts_with.ensures.value ∙ (λ i. starts_with nat_eq (c.bytes.ensures i) (c.bytes-2.ensures i)) ∙ begins_by c.args.front.now c.args.key.now
