use Rattle.std.proofs.Common.{rules}
use Rattle.cl_report.proofs.entries.write_outcome.Goals as goal

pub returns-in_ok-write_value-in-Bad : goal.returns-in_ok-write_value-in-Bad
unfolding Rattle.cl_report.specs.Lines.outcome_text
returns-in_ok-write_value-in-Bad c = search rules
