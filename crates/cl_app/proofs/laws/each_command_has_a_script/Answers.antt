use Rattle.cl_app.proofs.EachScript.{each_has_script}
use Rattle.cl_app.proofs.laws.each_command_has_a_script.Goals as goal

pub returns : goal.returns
returns c = each_has_script (record {
  outcome = c.each_text_has_an_outcome.ensures;
  values = c.texts_have_values.ensures;
  file = c.files_have_one_reading.ensures.each;
  parts = c.files_have_parts.ensures;
  source = c.each_source_has_an_answer.ensures;
  runs = c.each_file_has_results.ensures.results;
  sound = c.runs_are_sound.ensures;
  traces = c.each_file_has_a_trace_script.ensures;
  audits = c.each_file_has_an_audit_reply.ensures;
  ends = c.nodes_stay_sound.ensures.run;
  text = c.each_state_has_a_text.ensures.text;
  root = c.each_state_has_a_text.ensures.root;
  rows = c.each_state_has_a_text.ensures.rows;
})
