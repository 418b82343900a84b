use Rattle.std.proofs.Common.{◌≡◌, ◌-◌, ℕ, List, length, drop, take, take_all, length-drop, arith, Option, sym, subst}
use Rattle.cl_tables.specs.declared.spot.Spot.{Spot}
use Rattle.cl_lanes.specs.Lanes.{Spares}
use Rattle.cl_lanes.proofs.Sparing.{held_there}
use Rattle.cl_lanes.proofs.ready.judge.Goals as goal

-- the rest of a list from a place on
rest_is : (wrote : List (Option (List Spot))) (start : ℕ) → take (length wrote - start) (drop start wrote) ≡ drop start wrote
rest_is wrote start = take_all (length wrote - start) (drop start wrote) (omega (arith, length-drop start wrote))

pub returns-then-place-wrote : goal.returns-then-place-wrote
returns-then-place-wrote c = (c.in-Some.run', held_there c.args.held.now c.args.lane c.index-held-lane.result c.in-Some.run' c.if-lane-held.false c.index-held-lane.is c.in-Some.is, c.if-place-wrote.true)

pub slice_bounds-is_good-count : goal.slice_bounds-is_good-count
slice_bounds-is_good-count c = c.requires c.args.lane c.in-Some.run' (held_there c.args.held.now c.args.lane c.index-held-lane.result c.in-Some.run' c.if-lane-held.false c.index-held-lane.is c.in-Some.is)

pub returns-then-good : goal.returns-then-good
returns-then-good c = (
  c.in-Some.run',
  held_there c.args.held.now c.args.lane c.index-held-lane.result c.in-Some.run' c.if-lane-held.false c.index-held-lane.is c.in-Some.is,
  omega arith,
  subst (Spares c.in-Some.run'.footprint.touched) (rest_is c.args.wrote.now c.in-Some.run'.start) (c.in_ok-good.ensures.yes c.if-good.true),
)

pub returns-else-good : goal.returns-else-good
returns-else-good c = (
  c.in-Some.run',
  held_there c.args.held.now c.args.lane c.index-held-lane.result c.in-Some.run' c.if-lane-held.false c.index-held-lane.is c.in-Some.is,
  omega arith,
  λ h. c.in_ok-good.ensures.no c.if-good.false (subst (Spares c.in-Some.run'.footprint.touched) (sym (rest_is c.args.wrote.now c.in-Some.run'.start)) h),
)
