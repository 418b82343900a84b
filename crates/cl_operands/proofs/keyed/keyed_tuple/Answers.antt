use Rattle.cl_operands.proofs.KeyLaws.{apart}
use Rattle.cl_operands.proofs.keyed.keyed_tuple.Goals as goal

pub tuple_of-requires-clause-apart : goal.tuple_of-requires-clause-apart
tuple_of-requires-clause-apart c = apart c.args.entries.items _ _ c.in_ok-twice.ensures c.if-twice.false c.deref.ensures.value
