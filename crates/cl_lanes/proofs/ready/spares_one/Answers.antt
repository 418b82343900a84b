use Rattle.std.proofs.Common.{take, take_all, sym, subst, ◌∙◌}
use Rattle.cl_lanes.specs.Ready.{SparesOne}
use Rattle.cl_lanes.proofs.Sparing.{taken_more, spared_more, not_spared}
use Rattle.cl_lanes.proofs.ready.spares_one.Goals as goal

pub returns-then-is_among-clause-no : goal.returns-then-is_among-clause-no
returns-then-is_among-clause-no c = λ e.
    not_spared c.args.touched.now.keys c.args.wrote.now c.loop-spot.spot-index c.spot-item.result c.loop-spot-test.true (sym c.spot-item.is) (sym c.is_among.ensures ∙ c.if-is_among.true)

pub loop-spot-preserved : goal.loop-spot-preserved
loop-spot-preserved c =
    taken_more (SparesOne c.args.touched.now.keys) c.args.wrote.now c.loop-spot.spot-index c.spot-item.result c.loop-spot-test.true (sym c.spot-item.is)
    (spared_more c.args.touched.now.keys (take c.loop-spot.spot-index c.args.wrote.now) c.spot-item.result c.loop-spot.invariant (sym c.is_among.ensures ∙ c.if-is_among.false))

pub returns-clause-yes : goal.returns-clause-yes
returns-clause-yes c = λ e. subst (SparesOne c.args.touched.now.keys) (take_all c.loop-spot.spot-index c.args.wrote.now c.loop-spot-test.false) c.loop-spot.invariant
