use Rattle.std.proofs.Common.{ap, refl}
use Rattle.cl_values.specs.Computed.{kept}
use Rattle.cl_values.specs.Natives.{One}
use Rattle.cl_values.specs.Sequences.{within_length}
use Rattle.cl_apply.proofs.RowLaws.{not_one}
use Rattle.cl_apply.proofs.call.apply_within.Goals as goal

pub returns-in-None : goal.returns-in-None
returns-in-None c = ap kept (not_one (One (within_length c.args.most)) c.args.arguments.items refl c.in-None.ensures)
