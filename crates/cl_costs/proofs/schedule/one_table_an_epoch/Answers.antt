use Rattle.cl_costs.proofs.Schedules.{one_table, epochs_rise}
use Rattle.cl_costs.proofs.schedule.one_table_an_epoch.Goals as goal

pub returns-clause-table : goal.returns-clause-table
returns-clause-table c = one_table

pub returns-clause-rise : goal.returns-clause-rise
returns-clause-rise c = epochs_rise
