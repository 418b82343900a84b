use Rattle.cl_node_sound.proofs.Entries.{calls_typed}
use Rattle.cl_node_sound.proofs.Told.{runs_typed}
use Rattle.cl_node_sound.proofs.answers_have_their_types.Goals as goal

pub returns-clause-calls : goal.returns-clause-calls
returns-clause-calls c = calls_typed

pub returns-clause-run : goal.returns-clause-run
returns-clause-run c = runs_typed
