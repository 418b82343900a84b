use Rattle.std.proofs.Common.{Some, None}
use Rattle.cl_rules.specs.Context.{signature_in}
use Rattle.cl_bound.proofs.Lookups.{met}
use Rattle.cl_bound.proofs.Reaching.{reach_some, reach_none}
use Rattle.cl_bound.proofs.repricing.reach_at.Goals as goal

pub returns-in-Some : goal.returns-in-Some
returns-in-Some c table fs shows = reach_some table c.in-Some.application.now (signature_in c.args.name.now fs) c.reach_of.result (met table fs c.args.functions.now.entries c.args.name.now shows (Some c.in-Some.application.now) c.in-Some.ensures.value) c.reach_of.ensures

pub returns-in-None : goal.returns-in-None
returns-in-None c table fs shows = reach_none table (signature_in c.args.name.now fs) (met table fs c.args.functions.now.entries c.args.name.now shows None c.in-None.ensures.value)
