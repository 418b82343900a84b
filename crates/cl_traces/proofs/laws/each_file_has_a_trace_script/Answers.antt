use Rattle.cl_traces.proofs.Found.{each_has_script}
use Rattle.cl_traces.proofs.laws.each_file_has_a_trace_script.Goals as goal

pub returns : goal.returns
returns c = each_has_script c.each_file_has_results.ensures.results
