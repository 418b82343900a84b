use Rattle.std.proofs.Common.{◌∙◌, ap}
use Rattle.cl_post.specs.Post.{fitting}
use Rattle.cl_post.proofs.Sums.{sent_next}
use Rattle.cl_post.proofs.sum.sent.Goals as goal

pub loop-i-preserved : goal.loop-i-preserved
loop-i-preserved c =
    c.added-sum.ensures _ c.loop-i.invariant
    ∙ ap fitting (sent_next c.args.moves.now c.args.principal.now c.args.asset.now c.loop-i.i c.index-moves-i.result c.weight.result c.loop-i-test.true c.index-moves-i.is c.weight.ensures)
