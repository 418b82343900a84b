use Rattle.cl_nodes.proofs.Knowing.{one_more_type}
use Rattle.cl_nodes.proofs.told.types_of.Goals as goal

pub loop-definition-preserved : goal.loop-definition-preserved
loop-definition-preserved c =
    one_more_type c.args.definitions.now c.loop-definition.definition-index c.definition-item.result c.loop-definition.types.items c.push_type.new.types.items c.definition-item.is c.loop-definition-test.true c.loop-definition.invariant c.in_ok-push_type.ensures
