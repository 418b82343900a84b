use Rattle.std.proofs.Common.{◌∙◌, ap, ◌<◌, length, arith}
use Rattle.cl_post.specs.Post.{fitting}
use Rattle.cl_file.proofs.Holdings.{total_next}
use Rattle.cl_file.proofs.holders.total.Goals as goal

pub loop-i-preserved : goal.loop-i-preserved
loop-i-preserved c =
    let below : c.loop-i.i < length c.args.holders.now.entries = omega (arith, c.loop-i-test.true, c.len-i-end.ensures.len) in
    c.added-sum.ensures _ c.loop-i.invariant ∙ ap fitting (total_next c.args.holders.now.entries c.loop-i.i _ below c.in-Some.ensures.entry)
