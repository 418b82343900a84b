use Rattle.std.proofs.Common.{rules}
use Rattle.cl_ports.proofs.Grown.{part_whole}
use Rattle.cl_exports.proofs.growing_sink.GrowingSinkSink.write.Goals as goal

pub returns-in-Ok-clause-part : goal.returns-in-Ok-clause-part
returns-in-Ok-clause-part c = part_whole _ _ _ (search rules)
