use Rattle.std.proofs.Common.{subst}
use Rattle.cl_lanes.specs.Same.{AreSame}
use Rattle.cl_lanes.proofs.Sparing.{spares_as, same_back}
use Rattle.cl_lanes.proofs.ready.is_good.Goals as goal

pub returns-clause-yes : goal.returns-clause-yes
returns-clause-yes c = λ e.
    let same : AreSame c.in_ok-touched.touched.keys c.args.held.now.footprint.touched = subst (AreSame c.in_ok-touched.touched.keys) c.as_slice.ensures c.in_ok-touched.ensures in
    spares_as c.in_ok-touched.touched.keys c.args.held.now.footprint.touched same c.args.wrote.now (c.spares.ensures.yes e)

pub returns-clause-no : goal.returns-clause-no
returns-clause-no c = λ e h.
    let same : AreSame c.in_ok-touched.touched.keys c.args.held.now.footprint.touched = subst (AreSame c.in_ok-touched.touched.keys) c.as_slice.ensures c.in_ok-touched.ensures in
    c.spares.ensures.no e (spares_as c.args.held.now.footprint.touched c.in_ok-touched.touched.keys (same_back c.in_ok-touched.touched.keys c.args.held.now.footprint.touched same) c.args.wrote.now h)
