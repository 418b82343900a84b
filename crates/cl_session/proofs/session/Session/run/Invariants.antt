use Rattle.cl_session.proofs.Running.{RunsTo}
use Rattle.cl_session.proofs.session.Session.run.Given as goal

abbrev pub invariant-loop-entry : goal.invariant-loop-entry
invariant-loop-entry l = RunsTo l.entries l.entry-index l.fn.self l.self
