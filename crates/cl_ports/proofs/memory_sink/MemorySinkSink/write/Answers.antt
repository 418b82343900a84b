use Rattle.std.proofs.Common.{rules}
use Rattle.cl_ports.proofs.Grown.{part_take}
use Rattle.cl_ports.proofs.memory_sink.MemorySinkSink.write.Goals as goal

pub returns-then-taken-piece-clause-part : goal.returns-then-taken-piece-clause-part
returns-then-taken-piece-clause-part c = part_take c.min-taken.result _ _ _ (search rules)

pub returns-clause-part : goal.returns-clause-part
returns-clause-part c = part_take c.min-taken.result _ _ _ (search rules)
