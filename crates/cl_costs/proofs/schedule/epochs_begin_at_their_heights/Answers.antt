use Rattle.cl_costs.proofs.Schedules.{first_rules, each_rules}
use Rattle.cl_costs.proofs.schedule.epochs_begin_at_their_heights.Goals as goal

pub returns-clause-first : goal.returns-clause-first
returns-clause-first c = first_rules

pub returns-clause-each : goal.returns-clause-each
returns-clause-each c = each_rules
