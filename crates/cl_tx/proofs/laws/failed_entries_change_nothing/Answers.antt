use Rattle.cl_tx.proofs.StepLaws.{failed_leave}
use Rattle.cl_tx.proofs.laws.failed_entries_change_nothing.Goals as goal

pub returns : goal.returns
returns c = failed_leave
