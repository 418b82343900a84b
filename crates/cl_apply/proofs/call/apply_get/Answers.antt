use Rattle.std.proofs.Common.{ap, refl}
use Rattle.cl_values.specs.Computed.{kept}
use Rattle.cl_values.specs.Natives.{One}
use Rattle.cl_values.specs.Tuples.{part_at}
use Rattle.cl_apply.proofs.RowLaws.{not_one}
use Rattle.cl_apply.proofs.call.apply_get.Goals as goal

pub returns-in-None : goal.returns-in-None
returns-in-None c = ap kept (not_one (One (part_at c.args.key.now)) c.args.arguments.items refl c.in-None.ensures)
