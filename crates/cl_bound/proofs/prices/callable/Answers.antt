use Rattle.cl_bound.proofs.Lookups.{open_sum, private_sum, absent_sum}
use Rattle.cl_bound.proofs.prices.callable.Goals as goal

pub returns-in-Private : goal.returns-in-Private
returns-in-Private c table fs shows = private_sum table fs c.args.functions.now.entries c.args.name.now shows c.in-Some.application.now c.in-Some.ensures.value c.in-Private.is

pub returns-in_default : goal.returns-in_default
returns-in_default c table fs shows = open_sum table fs c.args.functions.now.entries c.args.name.now shows c.in-Some.application.now c.in-Some.ensures.value c.in_default.not-Private

pub returns-in-None : goal.returns-in-None
returns-in-None c table fs shows = absent_sum table fs c.args.functions.now.entries c.args.name.now shows c.in-None.ensures.value
