use Rattle.cl_meaning.specs.Limits.{cost}
use Rattle.cl_meaning.proofs.Stops.{over_limited, limited_over, limited_within, enough_within}
use Rattle.cl_meaning.proofs.laws.limits_stop_first.Goals as goal

pub returns-clause-stopped : goal.returns-clause-stopped
returns-clause-stopped g c = over_limited

pub returns-clause-stops : goal.returns-clause-stops
returns-clause-stops g c = limited_over

pub returns-clause-goes_on : goal.returns-clause-goes_on
unfolding cost
returns-clause-goes_on g c = limited_within

pub returns-clause-enough : goal.returns-clause-enough
unfolding cost
returns-clause-enough g c costs p a h = enough_within costs p a.log h
