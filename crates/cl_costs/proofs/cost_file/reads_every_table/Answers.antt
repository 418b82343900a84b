use Rattle.cl_costs.proofs.EveryTable.{table_again}
use Rattle.cl_costs.proofs.cost_file.reads_every_table.Goals as goal

pub returns : goal.returns
returns c = table_again
