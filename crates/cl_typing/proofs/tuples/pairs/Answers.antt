use Rattle.std.proofs.Common.{◌≡◌, sym, subst, ◌∙◌}
use Rattle.cl_types.specs.Sized.{IsSized}
use Rattle.cl_typing.proofs.TupleRows.{paired_next, rise_more, depths_more}
use Rattle.cl_typing.proofs.tuples.pairs.Goals as goal

pub loop-i-preserved : goal.loop-i-preserved
loop-i-preserved c =
    let same : c.in_ok-part.part ≡ c.index-types-i.result.now = c.in_ok-part.ensures ∙ c.ty.ensures.tree in
    let sized : IsSized c.in_ok-part.part = subst IsSized (sym c.in_ok-part.ensures) c.ty.ensures.sized in
    record {
      count = c.loop-i.invariant.count;
      paired = rw (c.in_ok-push.ensures.items, same) (paired_next (λ t. t.now) c.args.keys.now c.args.types.now c.loop-i.row.items c.loop-i.i c.index-keys-i.result c.index-types-i.result c.loop-i-test.true c.loop-i.invariant.count (sym c.index-keys-i.is) (sym c.index-types-i.is) c.loop-i.invariant.paired);
      rise = rw c.in_ok-push.ensures.items (rise_more c.loop-i.row.items c.index-keys-i.result c.in_ok-part.part c.loop-i.invariant.rise sized);
      depth = rw c.in_ok-push.ensures.items (depths_more c.loop-i.row.items c.index-keys-i.result c.in_ok-part.part c.loop-i.invariant.depth sized);
    }
