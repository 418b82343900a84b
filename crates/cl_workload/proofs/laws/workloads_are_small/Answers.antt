use Rattle.cl_workload.proofs.Small.{workloads_small}
use Rattle.cl_workload.proofs.laws.workloads_are_small.Goals as goal

pub returns : goal.returns
returns c = workloads_small
