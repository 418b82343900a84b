use Rattle.cl_meaning.proofs.Stops.{trace_within, trace_over}
use Rattle.cl_meaning.proofs.laws.traces_stop_there.Goals as goal

pub returns-clause-whole : goal.returns-clause-whole
returns-clause-whole g c = trace_within

pub returns-clause-cut : goal.returns-clause-cut
returns-clause-cut g c = trace_over
