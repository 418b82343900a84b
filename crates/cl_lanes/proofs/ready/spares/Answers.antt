use Rattle.std.proofs.Common.{List, [], ◌∷◌, take, Option, sym, subst}
use Rattle.cl_tables.specs.declared.spot.Spot.{Spot}
use Rattle.cl_lanes.specs.Lanes.{Spares}
use Rattle.cl_lanes.specs.Ready.{SparesOne}
use Rattle.cl_lanes.proofs.Sparing.{taken_more, spares_push, spares_at}
use Rattle.cl_lanes.proofs.ready.spares.Goals as goal

pub loop-entry-preserved : goal.loop-entry-preserved
loop-entry-preserved c =
    let spared : SparesOne c.args.touched.now.keys c.in-Some.spots = subst (SparesOne c.args.touched.now.keys) c.as_slice.ensures (c.spares_one.ensures.yes c.if-not-spares_one.false) in
    taken_more (Spares c.args.touched.now.keys) c.args.wrote.now c.loop-entry.entry-index c.entry-item.result c.loop-entry-test.true (sym c.entry-item.is)
    (spares_push c.args.touched.now.keys (take c.loop-entry.entry-index c.args.wrote.now) c.entry-item.result c.loop-entry.invariant
    (subst (λ (w : Option (List Spot)). Spares c.args.touched.now.keys (w ∷ [])) (sym c.in-Some.is) (spared, tt)))

pub returns-in-None-clause-no : goal.returns-in-None-clause-no
returns-in-None-clause-no c = λ e h.
    subst (λ (w : Option (List Spot)). Spares c.args.touched.now.keys (w ∷ [])) c.in-None.is
    (spares_at c.args.touched.now.keys c.args.wrote.now c.loop-entry.entry-index c.entry-item.result c.loop-entry-test.true (sym c.entry-item.is) h)

pub returns-then-not-spares_one-clause-no : goal.returns-then-not-spares_one-clause-no
returns-then-not-spares_one-clause-no c = λ e h.
    let one = subst (λ (w : Option (List Spot)). Spares c.args.touched.now.keys (w ∷ [])) c.in-Some.is
    (spares_at c.args.touched.now.keys c.args.wrote.now c.loop-entry.entry-index c.entry-item.result c.loop-entry-test.true (sym c.entry-item.is) h) in
    c.spares_one.ensures.no c.if-not-spares_one.true (subst (SparesOne c.args.touched.now.keys) (sym c.as_slice.ensures) one.0)
