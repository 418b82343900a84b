use Rattle.cl_newness.proofs.Newness.{new_at_first, new_here, new_after}
use Rattle.cl_newness.proofs.what_is_ahead_is_new.Goals as goal

pub returns-clause-first : goal.returns-clause-first
returns-clause-first c = new_at_first

pub returns-clause-here : goal.returns-clause-here
returns-clause-here c = new_here

pub returns-clause-after : goal.returns-clause-after
returns-clause-after c = new_after
