use Rattle.std.proofs.Common.{subst}
use Rattle.cl_values.specs.Valid.{IsVal}
use Rattle.cl_nodes.proofs.Valid.{one_more}
use Rattle.cl_nodes.proofs.parts.are_valid.Goals as goal

pub loop-arg-preserved : goal.loop-arg-preserved
loop-arg-preserved c =
    one_more IsVal c.args.args.now c.loop-arg.arg-index c.arg-item.result c.arg-item.is c.loop-arg-test.true (subst IsVal c.value-tree.ensures.tree c.value-tree.ensures.valid) c.loop-arg.invariant
