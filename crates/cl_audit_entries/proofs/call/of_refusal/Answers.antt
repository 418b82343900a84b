use Rattle.std.proofs.Common.{[]}
use Rattle.cl_audit_entries.proofs.Fresh.{fresh_is}
use Rattle.cl_audit_entries.proofs.call.of_refusal.Goals as goal

pub returns-clause-agrees : goal.returns-clause-agrees
returns-clause-agrees c = c.agreement_of.ensures [] (fresh_is c.args.run.now.cursor c.requires)
