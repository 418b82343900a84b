use Rattle.std.proofs.Common.{rules, sym, arith}
use Rattle.cl_apply.proofs.DefinedLaws.{lists_more, lists_not}
use Rattle.cl_apply.proofs.definedness.lists.Goals as goal

pub returns-then-size-gt-MOST_SIZE : goal.returns-then-size-gt-MOST_SIZE
returns-then-size-gt-MOST_SIZE c =
    sym (lists_not c.args.values.now c.loop-value.value-index (omega (arith, c.loop-value.invariant.counted, c.if-size-gt-MOST_SIZE.true)))

pub loop-value-preserved : goal.loop-value-preserved
loop-value-preserved c =
    let more = lists_more c.args.values.now c.loop-value.value-index c.loop-value.size c.loop-value.depth c.value-item.result c.loop-value-test.true (search rules) c.loop-value.invariant.counted c.loop-value.invariant.measured in
    record {
      counted = omega (arith, more.0, c.size-size.ensures.counted);
      small = omega (arith, c.if-size-gt-MOST_SIZE.false, c.size-size.ensures.within);
      measured = omega (arith, more.1, c.max-depth.ensures, c.depth.ensures.counted);
      shallow = omega (arith, c.max-depth.ensures, c.depth.ensures.within, c.loop-value.invariant.shallow);
    }
