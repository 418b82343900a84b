use Rattle.cl_results.proofs.EntriesStep.{each_steps}
use Rattle.cl_results.proofs.each_entry_has_a_result.Goals as goal

pub returns : goal.returns
returns c = each_steps c.each_source_has_an_answer.ensures c.entries_come_to_something.ensures.calls c.entries_come_to_something.ensures.deployments
