use Rattle.cl_readonly_sound.proofs.CallsLeave.{contract_stands, call_untouched, read_only_does_not_write, read_only_untouched}
use Rattle.cl_readonly_sound.proofs.calls_without_writes_leave_the_state.Goals as goal

pub returns-clause-texts : goal.returns-clause-texts
returns-clause-texts c = contract_stands

pub returns-clause-calls : goal.returns-clause-calls
returns-clause-calls c = call_untouched

pub returns-clause-none_writes : goal.returns-clause-none_writes
returns-clause-none_writes c = read_only_does_not_write

pub returns-clause-read_only : goal.returns-clause-read_only
returns-clause-read_only c = read_only_untouched
