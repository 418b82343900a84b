use Rattle.std.proofs.Common.{sym}
use Rattle.cl_footprint.specs.Named.{IsNamed}
use Rattle.cl_footprint.proofs.Each.{taken_all, taken_more}
use Rattle.cl_footprint.proofs.named.are_named.Goals as goal

pub loop-definition-preserved : goal.loop-definition-preserved
loop-definition-preserved c =
    taken_more IsNamed c.args.definitions.now c.loop-definition.definition-index c.definition-item.result c.loop-definition-test.true (sym c.definition-item.is) c.loop-definition.invariant c.is_named.ensures

pub returns : goal.returns
returns c = taken_all IsNamed c.args.definitions.now c.loop-definition.definition-index c.loop-definition-test.false c.loop-definition.invariant
