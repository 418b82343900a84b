use Rattle.cl_shapes.proofs.Logarithms.{cost_at-mono}
use Rattle.cl_shapes.proofs.function.CostFn.never_falls.Goals as goal

pub returns : goal.returns
returns c = cost_at-mono c.args.self.now
