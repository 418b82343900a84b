use Rattle.std.proofs.Common.{map, ◌<◌, arith, sym}
use Rattle.cl_meaning.specs.Deployed.{contract_at}
use Rattle.cl_code.specs.Nodes.{versions_of}
use Rattle.cl_code.specs.Typed.{expression_of, typeds, weight_of, weights_of}
use Rattle.cl_code.proofs.Weights.{part_falls}
use Rattle.cl_contracts.specs.Seen.{deployed_seen}
use Rattle.cl_touch.specs.Touches.{natives_at}
use Rattle.cl_footprint.proofs.NodesName.{node_named, one_goes}
use Rattle.cl_footprint.specs.Gathering.{gathered}
use Rattle.cl_footprint.proofs.Walked.{one_more, walked}
use Rattle.cl_footprint.proofs.walk.+walking.Goals as goal

pub walk-returns : goal.walk-returns
walk-returns t c =
    walked (natives_at c.args.own.now (deployed_seen c.args.deployed.now)) (deployed_seen c.args.deployed.now) c.args.own.now c.code.inside.op c.code.inside.parts.items c.deref.result.now c.code.inside.span c.args.code.now c.code.inside.ty (versions_of c.code.inside.op) (typeds c.code.inside.parts.items)
    (gathered c.args.reached.now.keys c.args.touched.now.keys c.args.written.now.keys) (gathered c.add_node.new.reached.keys c.add_node.new.touched.keys c.add_node.new.written.keys)
    (gathered c.walk_parts.new.reached.keys c.walk_parts.new.touched.keys c.walk_parts.new.written.keys) c.code.invariant.fit (node_named c.code.inside.op (map expression_of c.code.inside.parts.items) c.code.inside.span c.code.inside.ty c.code.inside.parts.items c.args.code.now (sym c.code.view_is) (contract_at c.args.own.now (deployed_seen c.args.deployed.now)) c.requires) (sym c.code.view_is) c.deref.ensures.value c.in_ok-add_node.ensures c.in_ok-walk_parts.ensures

pub walk_parts-walk-requires : goal.walk_parts-walk-requires
walk_parts-walk-requires t c =
    let less : weight_of c.part-item.result < weights_of (typeds c.args.parts.now) = part_falls c.args.parts.now c.loop-part.part-index c.part-item.result c.loop-part-test.true (sym c.part-item.is) in (
      omega (arith, less, c.decreases),
      one_goes (contract_at c.args.own.now (deployed_seen c.args.deployed.now)) c.args.parts.now c.loop-part.part-index c.part-item.result c.requires c.loop-part-test.true (sym c.part-item.is),
    )

pub walk_parts-loop-part-preserved : goal.walk_parts-loop-part-preserved
walk_parts-loop-part-preserved t c =
    one_more (natives_at c.args.own.now (deployed_seen c.args.deployed.now)) (deployed_seen c.args.deployed.now) c.args.own.now c.args.parts.now c.loop-part.part-index c.part-item.result (gathered c.args.reached.now.keys c.args.touched.now.keys c.args.written.now.keys)
    (gathered c.loop-part.reached.keys c.loop-part.touched.keys c.loop-part.written.keys) (gathered c.walk.new.reached.keys c.walk.new.touched.keys c.walk.new.written.keys) c.loop-part-test.true (sym c.part-item.is) c.loop-part.invariant c.in_ok-walk.ensures
