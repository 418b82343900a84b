use Rattle.cl_replies.proofs.Judged.{are_apart, names_apart}
use Rattle.cl_replies.proofs.judge.check_reply.Goals as goal

pub report-requires : goal.report-requires
report-requires c = record { apart = are_apart c.requires.address c.args.sources.now c.requires.paths c.requires.contracts (names_apart c.requires.paths c.requires.differ) }
