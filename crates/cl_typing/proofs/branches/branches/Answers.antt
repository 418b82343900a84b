use Rattle.cl_types.specs.Lattice.{least_supertype}
use Rattle.cl_typing.proofs.BranchRows.{branches_fail}
use Rattle.cl_typing.proofs.branches.branches.Goals as goal

pub returns-in-Err : goal.returns-in-Err
returns-in-Err c = branches_fail (least_supertype c.args.first.now c.args.second.now) c.args.determined c.in-Err.fault c.in-Err.ensures.ruled
