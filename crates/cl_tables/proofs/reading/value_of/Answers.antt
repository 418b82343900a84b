use Rattle.cl_tables.proofs.OwnerKeys.{never_refused}
use Rattle.cl_tables.proofs.reading.value_of.Goals as goal

pub unreachable-requires : goal.unreachable-requires
unreachable-requires c =
    never_refused c.read_back.ensures c.args.bytes.now c.decode.result c.in-Err-Refused.field-0 c.in-Err-Refused.field-0-0 c.requires c.in-Err-Refused.is c.in-Err-Refused.field-0-is c.decode.ensures.broken
