use Rattle.cl_entries.proofs.Running.{first_are_done, last_ends}
use Rattle.cl_entries.proofs.Scripts.{run_same, run_tells, run_writes}
use Rattle.cl_entries.proofs.laws.a_file_has_one_script.Goals as goal

pub returns-clause-one : goal.returns-clause-one
returns-clause-one c = run_same c.steps_have_one_result.ensures.run c.a_state_has_one_text.ensures

pub returns-clause-first : goal.returns-clause-first
returns-clause-first c = first_are_done c.runs_are_sound.ensures c.steps_have_one_result.ensures.run c.a_state_has_one_text.ensures

pub returns-clause-last : goal.returns-clause-last
returns-clause-last c = last_ends c.runs_are_sound.ensures

pub returns-clause-commits : goal.returns-clause-commits
returns-clause-commits c = λ table file state script is. record { results = is.results; after = is.after; runs = is.runs; events_are = run_tells table file state script is }

pub returns-clause-writes : goal.returns-clause-writes
returns-clause-writes c = run_writes
