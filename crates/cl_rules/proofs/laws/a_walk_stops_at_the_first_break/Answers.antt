use Rattle.cl_rules.proofs.Walk.{walk_is_first}
use Rattle.cl_rules.proofs.FormWalk.{forms_walk_is_first}
use Rattle.cl_rules.proofs.laws.a_walk_stops_at_the_first_break.Goals as goal

pub returns-clause-expressions : goal.returns-clause-expressions
returns-clause-expressions c = walk_is_first

pub returns-clause-forms : goal.returns-clause-forms
returns-clause-forms c = forms_walk_is_first
