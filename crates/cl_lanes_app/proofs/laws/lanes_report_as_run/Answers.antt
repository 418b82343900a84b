use Rattle.cl_lanes_app.proofs.Left.{left_entries_keep_numbers}
use Rattle.cl_lanes_app.proofs.Once.{as_run, one_reply}
use Rattle.cl_lanes_app.proofs.laws.lanes_report_as_run.Goals as goal

pub returns-clause-one : goal.returns-clause-one
returns-clause-one c = one_reply c.scripts_are_one.ensures.read c.steps_have_one_result.ensures.run c.lanes_run_the_entries.ensures.once

pub returns-clause-report : goal.returns-clause-report
returns-clause-report c = as_run c.steps_have_one_result.ensures.run c.a_file_has_one_script.ensures.writes

pub returns-clause-left : goal.returns-clause-left
returns-clause-left c = left_entries_keep_numbers c.lanes_run_the_entries.ensures.entries c.entries_are_done_in_turn.ensures.calls c.entries_are_done_in_turn.ensures.barriers
