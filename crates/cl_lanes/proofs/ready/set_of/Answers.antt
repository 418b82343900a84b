use Rattle.std.proofs.Common.{List, [], ◌∷◌, ◌++◌, take, take_all, sym, subst}
use Rattle.cl_tables.specs.declared.spot.Spot.{Spot}
use Rattle.cl_lanes.specs.Same.{AreSame}
use Rattle.cl_lanes.proofs.Sparing.{taken_more, same_more}
use Rattle.cl_lanes.proofs.ready.set_of.Goals as goal

pub loop-spot-preserved : goal.loop-spot-preserved
loop-spot-preserved c =
    taken_more (AreSame c.add.new.spots.keys) c.args.spots.now c.loop-spot.spot-index c.spot-item.result c.loop-spot-test.true (sym c.spot-item.is)
    (subst (λ (ks : List Spot). AreSame ks (take c.loop-spot.spot-index c.args.spots.now ++ c.spot-item.result ∷ [])) (sym c.in_ok-add.ensures) (same_more c.loop-spot.set.keys (take c.loop-spot.spot-index c.args.spots.now) c.spot-item.result c.loop-spot.invariant))

pub returns : goal.returns
returns c = subst (AreSame c.loop-spot.set.keys) (take_all c.loop-spot.spot-index c.args.spots.now c.loop-spot-test.false) c.loop-spot.invariant
