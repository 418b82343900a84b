use Rattle.std.proofs.Common.{arith}
use Rattle.cl_text.proofs.Sound.{value_good}
use Rattle.cl_text.proofs.parser.item_value.Goals as goal

pub within_limits-requires-clause-depth : goal.within_limits-requires-clause-depth
within_limits-requires-clause-depth c =
    let good = value_good c.args.item.now c.in-Ok.value c.requires.spelled c.in-Ok.ensures.found in
    omega (arith, good.depth, c.requires.depth)

pub within_limits-requires-clause-keys : goal.within_limits-requires-clause-keys
within_limits-requires-clause-keys c = (value_good c.args.item.now c.in-Ok.value c.requires.spelled c.in-Ok.ensures.found).keys

pub within_limits-requires-clause-texts : goal.within_limits-requires-clause-texts
within_limits-requires-clause-texts c = (value_good c.args.item.now c.in-Ok.value c.requires.spelled c.in-Ok.ensures.found).texts
