use Rattle.std.proofs.Common.{sym}
use Rattle.cl_maps.proofs.MapLaws.{without_absent}
use Rattle.cl_tables.proofs.tables.take_value.Goals as goal

pub returns-in_default-clause-content : goal.returns-in_default-clause-content
returns-in_default-clause-content c = without_absent c.args.table.now.content c.args.key.now (sym c.in_default.ensures.value)
