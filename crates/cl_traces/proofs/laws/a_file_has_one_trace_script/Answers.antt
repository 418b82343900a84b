use Rattle.cl_traces.proofs.Traced.{one_trace}
use Rattle.cl_traces.proofs.Tracing.{first_are_done, last_ends, script_same}
use Rattle.cl_traces.proofs.laws.a_file_has_one_trace_script.Goals as goal

pub returns-clause-one : goal.returns-clause-one
returns-clause-one c = script_same c.steps_have_one_result.ensures.step (one_trace c.texts_have_one_order.ensures.order)

pub returns-clause-first : goal.returns-clause-first
returns-clause-first c = first_are_done c.steps_have_one_result.ensures.step (one_trace c.texts_have_one_order.ensures.order)

pub returns-clause-last : goal.returns-clause-last
returns-clause-last c = last_ends
