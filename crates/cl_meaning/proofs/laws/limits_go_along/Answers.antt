use Rattle.cl_meaning.proofs.LimitLaws.{limited-then, charge_within, charge_over, limited-ending, limited-returning}
use Rattle.cl_meaning.proofs.laws.limits_go_along.Goals as goal

pub returns-clause-behind : goal.returns-clause-behind
returns-clause-behind g c = limited-then

pub returns-clause-allowed : goal.returns-clause-allowed
returns-clause-allowed g c = charge_within

pub returns-clause-refused : goal.returns-clause-refused
returns-clause-refused g c = charge_over

pub returns-clause-ended : goal.returns-clause-ended
returns-clause-ended g c = limited-ending

pub returns-clause-early : goal.returns-clause-early
returns-clause-early g c = limited-returning
