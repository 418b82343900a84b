use Rattle.std.proofs.Common.{drop, arith}
use Rattle.cl_post.specs.Holdings.{AreSums}
use Rattle.cl_post.proofs.Kept.{no_sums, at_front}
use Rattle.cl_post.proofs.moved.summed.Goals as goal

pub loop-i-init : goal.loop-i-init
loop-i-init c = record { within = omega arith; sums = no_sums c.args.moves.now c.new-sums.result c.new-sums.ensures.empty }

pub loop-i-preserved : goal.loop-i-preserved
loop-i-preserved c = record {
  within = omega (arith, c.loop-i.invariant.within);
  sums = at_front (λ ms. AreSums ms c.add_move.new.sums) c.args.moves.now c.loop-i.i c.index-moves-i.result (omega (arith, c.loop-i-test.true)) c.loop-i.invariant.within c.index-moves-i.is (c.in_ok-add_move.ensures (drop c.loop-i.i c.args.moves.now) c.loop-i.invariant.sums);
}
