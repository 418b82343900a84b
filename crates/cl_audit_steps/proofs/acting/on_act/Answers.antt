use Rattle.cl_audit_steps.specs.Seen.{seen}
use Rattle.cl_audit_steps.proofs.DataLaws.{acts_at, only_reads}
use Rattle.cl_audit_steps.proofs.acting.on_act.Goals as goal

pub returns-in-Print : goal.returns-in-Print
returns-in-Print c outer = acts_at (seen c.args.scope.now outer) _ _ _ _ _ _ c.in-Print.is (c.print.ensures outer)

pub returns-in-SetVariable : goal.returns-in-SetVariable
returns-in-SetVariable c outer = acts_at (seen c.args.scope.now outer) _ _ _ _ _ _ c.in-SetVariable.is (c.set_variable.ensures outer)

pub returns-in-DeleteEntry : goal.returns-in-DeleteEntry
returns-in-DeleteEntry c outer = acts_at (seen c.args.scope.now outer) _ _ _ _ _ _ c.in-DeleteEntry.is (c.delete_entry.ensures outer)

pub returns-in-ReadEntry : goal.returns-in-ReadEntry
returns-in-ReadEntry c outer = acts_at (seen c.args.scope.now outer) _ _ _ _ _ _ c.in-ReadEntry.is (only_reads (seen c.args.scope.now outer) _ _ _ (c.read_entry.ensures outer))

pub returns-in-ReadBalance : goal.returns-in-ReadBalance
returns-in-ReadBalance c outer = acts_at (seen c.args.scope.now outer) _ _ _ _ _ _ c.in-ReadBalance.is (only_reads (seen c.args.scope.now outer) _ _ _ (c.read_balance.ensures outer))

pub returns-in-ReadOwner : goal.returns-in-ReadOwner
returns-in-ReadOwner c outer = acts_at (seen c.args.scope.now outer) _ _ _ _ _ _ c.in-ReadOwner.is (only_reads (seen c.args.scope.now outer) _ _ _ (c.read_owner.ensures outer))

pub returns-in-ReadStx : goal.returns-in-ReadStx
returns-in-ReadStx c outer = acts_at (seen c.args.scope.now outer) _ _ _ _ _ _ c.in-ReadStx.is (only_reads (seen c.args.scope.now outer) _ _ _ (c.read_stx.ensures (seen c.args.scope.now outer)))
