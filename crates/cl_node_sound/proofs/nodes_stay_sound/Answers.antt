use Rattle.cl_node_sound.proofs.Entries.{first_sound, sound_stays, runs_end_sound}
use Rattle.cl_node_sound.proofs.nodes_stay_sound.Goals as goal

pub returns-clause-first : goal.returns-clause-first
returns-clause-first c = first_sound

pub returns-clause-stay : goal.returns-clause-stay
returns-clause-stay c = sound_stays

pub returns-clause-run : goal.returns-clause-run
returns-clause-run c = runs_end_sound
