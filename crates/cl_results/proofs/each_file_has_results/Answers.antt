use Rattle.cl_results.proofs.EntriesStep.{each_runs, each_commits}
use Rattle.cl_results.proofs.each_file_has_results.Goals as goal

pub returns-clause-results : goal.returns-clause-results
returns-clause-results c = each_runs c.each_entry_has_a_result.ensures c.nodes_stay_sound.ensures.first c.nodes_stay_sound.ensures.stay

pub returns-clause-events : goal.returns-clause-events
returns-clause-events c = each_commits (each_runs c.each_entry_has_a_result.ensures c.nodes_stay_sound.ensures.first c.nodes_stay_sound.ensures.stay)
