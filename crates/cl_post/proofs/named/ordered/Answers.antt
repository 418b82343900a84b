use Rattle.std.proofs.Common.{drop, arith}
use Rattle.cl_post.specs.Holdings.{AreNamed}
use Rattle.cl_post.proofs.Kept.{none_named, at_front}
use Rattle.cl_post.proofs.named.ordered.Goals as goal

pub loop-i-init : goal.loop-i-init
loop-i-init c = record { within = omega arith; named = none_named c.args.conditions.now c.new-named.result c.new-named.ensures.empty }

pub loop-i-preserved : goal.loop-i-preserved
loop-i-preserved c = record {
  within = omega (arith, c.loop-i.invariant.within);
  named = at_front (λ cs. AreNamed cs c.add_condition.new.named) c.args.conditions.now c.loop-i.i c.index-conditions-i.result (omega (arith, c.loop-i-test.true)) c.loop-i.invariant.within c.index-conditions-i.is (c.in_ok-add_condition.ensures (drop c.loop-i.i c.args.conditions.now) c.loop-i.invariant.named);
}
