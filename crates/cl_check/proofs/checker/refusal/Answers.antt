use Rattle.std.proofs.Common.{rules}
use Rattle.cl_check.proofs.checker.refusal.Goals as goal

pub returns-in-Refused : goal.returns-in-Refused
returns-in-Refused c = search rules
