use Rattle.cl_app.proofs.Once.{command_same, inputs_same, script_same}
use Rattle.cl_app.proofs.laws.scripts_are_one.Goals as goal

pub returns-clause-command : goal.returns-clause-command
returns-clause-command c = command_same (record {
  outcome = c.one_outcome.ensures;
  file = c.files_have_one_reading.ensures.one;
  run = c.steps_have_one_result.ensures.run;
  script = c.a_file_has_one_script.ensures.one;
  traces = c.a_file_has_one_trace_script.ensures.one;
  audits = c.a_file_has_one_audit_reply.ensures;
  sources = record { clean = c.texts_have_one_answer.ensures.clean; defined = c.texts_have_one_answer.ensures.one_defined; first = c.texts_have_one_answer.ensures.one_first; order = c.texts_have_one_order.ensures.order };
  roots = record { root = c.states_have_one_root.ensures.root; path = c.states_have_one_root.ensures.path; own = c.rows_have_keys_of_their_own.ensures.own };
})

pub returns-clause-read : goal.returns-clause-read
returns-clause-read c = inputs_same (record {
  outcome = c.one_outcome.ensures;
  file = c.files_have_one_reading.ensures.one;
  run = c.steps_have_one_result.ensures.run;
  script = c.a_file_has_one_script.ensures.one;
  traces = c.a_file_has_one_trace_script.ensures.one;
  audits = c.a_file_has_one_audit_reply.ensures;
  sources = record { clean = c.texts_have_one_answer.ensures.clean; defined = c.texts_have_one_answer.ensures.one_defined; first = c.texts_have_one_answer.ensures.one_first; order = c.texts_have_one_order.ensures.order };
  roots = record { root = c.states_have_one_root.ensures.root; path = c.states_have_one_root.ensures.path; own = c.rows_have_keys_of_their_own.ensures.own };
})

pub returns-clause-inputs : goal.returns-clause-inputs
returns-clause-inputs c = script_same (record {
  outcome = c.one_outcome.ensures;
  file = c.files_have_one_reading.ensures.one;
  run = c.steps_have_one_result.ensures.run;
  script = c.a_file_has_one_script.ensures.one;
  traces = c.a_file_has_one_trace_script.ensures.one;
  audits = c.a_file_has_one_audit_reply.ensures;
  sources = record { clean = c.texts_have_one_answer.ensures.clean; defined = c.texts_have_one_answer.ensures.one_defined; first = c.texts_have_one_answer.ensures.one_first; order = c.texts_have_one_order.ensures.order };
  roots = record { root = c.states_have_one_root.ensures.root; path = c.states_have_one_root.ensures.path; own = c.rows_have_keys_of_their_own.ensures.own };
})
