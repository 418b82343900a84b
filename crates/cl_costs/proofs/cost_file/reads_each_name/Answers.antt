use Rattle.cl_costs.proofs.EachName.{each_name}
use Rattle.cl_costs.proofs.cost_file.reads_each_name.Goals as goal

pub returns : goal.returns
returns c = each_name
