use Rattle.std.proofs.Common.{◌∙◌, arith}
use Rattle.cl_tables.proofs.Covering.{keeps_low, keeps_thinning, all_thinned}
use Rattle.cl_state.proofs.history.thin_notes.Goals as goal

pub loop-next-preserved : goal.loop-next-preserved
loop-next-preserved c =
    let old = c.args.notes.now.items in
    let cur = c.loop-next.notes.items in
    let new = c.keep_next-kept.new.notes.items in
    record {
      within = keeps_low c.args.low c.loop-next.kept c.loop-next.next c.keep_next-kept.result cur new c.keep_next-kept.ensures.next c.loop-next.invariant.within;
      least = omega (arith, c.loop-next-test.true);
      count = c.keep_next-kept.ensures.len ∙ c.loop-next.invariant.count;
      thins = keeps_thinning c.args.low c.loop-next.kept c.loop-next.next c.keep_next-kept.result old cur new _ c.keep_next-kept.ensures.next (omega (arith, c.loop-next-test.true, c.loop-next.invariant.count)) c.loop-next.invariant.thins;
    }

pub returns : goal.returns
returns c =
    all_thinned c.args.low c.loop-next.kept c.loop-next.next c.args.notes.now.items c.loop-next.notes.items c.truncate.new.self.items _ (omega (arith, c.loop-next-test.false, c.loop-next.invariant.count)) c.truncate.ensures.items
    c.loop-next.invariant.thins
