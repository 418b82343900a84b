use Rattle.cl_shapes.proofs.Logarithms.{log2_is, log2-zero}
use Rattle.cl_shapes.proofs.function.CostFn.log2_rounds_down.Goals as goal

pub returns-clause-zero : goal.returns-clause-zero
returns-clause-zero c = log2-zero

pub returns-clause-positive : goal.returns-clause-positive
returns-clause-positive c = log2_is
