use Rattle.std.proofs.Common.{refl, sym, ap}
use Rattle.cl_shapes.specs.Costs.{plus}
use Rattle.cl_costs.specs.Tables.{function_of}
use Rattle.cl_rules.specs.Bills.{cost_under}
use Rattle.cl_rules.specs.ControlShapes.{binds}
use Rattle.std.proofs.Common.{map}
use Rattle.cl_code.specs.Typed.{type_of}
use Rattle.cl_bound.proofs.Adding.{binds_turn, binds_end}
use Rattle.cl_bound.proofs.own.add_binds.Goals as goal

pub loop-part-init : goal.loop-part-init
loop-part-init c a is = (a, is, refl)

pub loop-part-preserved : goal.loop-part-preserved
loop-part-preserved c a is = binds_turn (function_of c.args.prices.now.costs) (plus a (cost_under (function_of c.args.prices.now.costs) (binds (map type_of c.args.parts.now)))) c.args.parts.now c.loop-part.part-index c.part-item.result c.part.inside.ty c.loop-part.sum c.add_sized.new.sum c.loop-part-test.true (sym c.part-item.is) (ap type_of (sym c.part.view_is)) c.add_sized.ensures (c.loop-part.invariant a is)

pub returns : goal.returns
returns c a is = binds_end (function_of c.args.prices.now.costs) (plus a (cost_under (function_of c.args.prices.now.costs) (binds (map type_of c.args.parts.now)))) c.args.parts.now c.loop-part.part-index c.loop-part.sum c.loop-part-test.false (c.loop-part.invariant a is)
