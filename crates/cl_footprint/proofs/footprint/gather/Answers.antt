use Rattle.std.proofs.Common.{List, sym, ap, subst, ◌∙◌, slice_get, arith}
use Rattle.cl_tables.specs.declared.place.Place.{Place}
use Rattle.cl_contracts.specs.Seen.{deployed_seen}
use Rattle.cl_footprint.specs.Gathering.{gathered}
use Rattle.cl_footprint.proofs.Visited.{IsThrough, none_through, one_further, past_end, all_listed}
use Rattle.cl_footprint.proofs.footprint.gather.Goals as goal

pub loop-index-init : goal.loop-index-init
loop-index-init c p f is = subst (IsThrough (deployed_seen c.args.deployed.now) p f 0) (sym is) (none_through (deployed_seen c.args.deployed.now) p f)

pub loop-index-preserved : goal.loop-index-preserved
loop-index-preserved c p f is =
    one_further (deployed_seen c.args.deployed.now) p f c.loop-index.index (gathered c.loop-index.reached.keys c.loop-index.touched.keys c.loop-index.written.keys)
    (gathered c.visit.new.reached.keys c.visit.new.touched.keys c.visit.new.written.keys) c.in-Some.at (c.loop-index.invariant p f is)
    (ap (λ (es : List Place). slice_get es c.loop-index.index) (sym c.as_slice.ensures.keys) ∙ sym c.place_at.ensures ∙ c.in-Some.is) c.in_ok-visit-in-Some.ensures

pub returns-in-None : goal.returns-in-None
returns-in-None c p f is =
    all_listed (deployed_seen c.args.deployed.now) p f c.loop-index.index (gathered c.loop-index.reached.keys c.loop-index.touched.keys c.loop-index.written.keys) (c.loop-index.invariant p f is)
    (past_end c.loop-index.reached.keys c.loop-index.index (ap (λ (es : List Place). slice_get es c.loop-index.index) (sym c.as_slice.ensures.keys) ∙ sym c.place_at.ensures ∙ c.in-None.is))

pub returns : goal.returns
returns c p f is =
    let a = c.loop-index-test.false in
    let b = c.len-fewer.ensures.small in
    let d = c.len-fewer.ensures.len in
    all_listed (deployed_seen c.args.deployed.now) p f c.loop-index.index (gathered c.loop-index.reached.keys c.loop-index.touched.keys c.loop-index.written.keys) (c.loop-index.invariant p f is) (omega (arith, a, b, d))
