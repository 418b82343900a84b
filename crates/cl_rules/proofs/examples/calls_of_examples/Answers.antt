use Rattle.cl_rules.proofs.ComputedCalls.{call_of_another, breaks_of_calls, writes_by_another}
use Rattle.cl_rules.proofs.examples.calls_of_examples.Goals as goal

pub returns-clause-called : goal.returns-clause-called
returns-clause-called c = call_of_another

pub returns-clause-breaks : goal.returns-clause-breaks
returns-clause-breaks c = breaks_of_calls

pub returns-clause-writes : goal.returns-clause-writes
returns-clause-writes c = writes_by_another
