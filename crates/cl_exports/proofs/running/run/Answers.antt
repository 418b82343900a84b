use Rattle.cl_exports.proofs.Endings.{run_lacks_memory, run_reads, run_refuses}
use Rattle.cl_exports.proofs.running.run.Goals as goal

pub returns-in-Ok : goal.returns-in-Ok
returns-in-Ok c = run_reads _ _ _ _ _ c.in-Ok.ensures.found c.run_file.ensures

pub returns-in-Err-Refused : goal.returns-in-Err-Refused
returns-in-Err-Refused c = run_refuses _ _ _ _ _ (rw c.in-Err-Refused.field-0-is at c.in-Err-Refused.ensures.broken) c.refuse_file.ensures

pub returns-in-Err-NoMemory : goal.returns-in-Err-NoMemory
returns-in-Err-NoMemory c = run_lacks_memory _ _ _ c.clear.ensures
