use Rattle.cl_audit_steps.specs.Seen.{seen}
use Rattle.cl_audit_steps.proofs.DataLaws.{reads_at}
use Rattle.cl_audit_steps.proofs.acting.on_read.Goals as goal

pub returns-in-Variable : goal.returns-in-Variable
returns-in-Variable c outer = reads_at (seen c.args.scope.now outer) _ _ _ _ _ c.in-Variable.is (c.read_variable.ensures outer)

pub returns-in-Supply : goal.returns-in-Supply
returns-in-Supply c outer = reads_at (seen c.args.scope.now outer) _ _ _ _ _ c.in-Supply.is (c.read_supply.ensures outer)
