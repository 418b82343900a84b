use Rattle.std.proofs.Common.{◌∙◌}
use Rattle.serde_json.specs.View.{view}
use Rattle.cl_shapes.specs.Costs.{dimensions}
use Rattle.cl_shapes.specs.declared.cost.Dimension.TheVariants.{Runtime}
use Rattle.cl_costs.specs.CostFile.{is_no_shape, shape_at}
use Rattle.cl_costs.proofs.Functions.{find_next}
use Rattle.cl_costs.proofs.function.without_shape.Goals as goal

pub loop-dimension-preserved : goal.loop-dimension-preserved
loop-dimension-preserved c =
    find_next (λ dimension. is_no_shape (shape_at (view c.args.function.now) dimension)) dimensions _ Runtime c.loop-dimension-test.true c.if-has_no_shape.ensures
    ∙ c.loop-dimension.invariant
