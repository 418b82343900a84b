use Rattle.std.proofs.Common.{◌≡◌, drop, find}
use Rattle.serde_json.specs.View.{view}
use Rattle.cl_shapes.specs.Costs.{dimensions}
use Rattle.cl_costs.specs.CostFile.{is_no_shape, shape_at, without_shape}
use Rattle.cl_costs.proofs.function.without_shape.Given as goal

abbrev pub invariant-loop-dimension : goal.invariant-loop-dimension
invariant-loop-dimension l =
    find (λ dimension. is_no_shape (shape_at (view l.function) dimension)) (drop l.dimension-index dimensions) ≡ without_shape (view l.function)
