use Rattle.std.proofs.Common.{◌≡◌, arith, ap}
use Rattle.std.proofs.lemmas.Bool.{and_from}
use Rattle.cl_types.specs.Types.{depth_of}
use Rattle.cl_types.specs.Sized.{everywhere, keys_rise}
use Rattle.cl_typing.proofs.making.bad.Goals as goal

pub made-requires-clause-keys : goal.made-requires-clause-keys
made-requires-clause-keys c = and_from (everywhere keys_rise c.in_ok-good.good.value) (everywhere keys_rise c.in_ok-bad.bad.value) (ap (everywhere keys_rise) c.in_ok-good.ensures) c.in_ok-bad.ensures.sized.keys

pub made-requires-clause-depth : goal.made-requires-clause-depth
made-requires-clause-depth c = let n : depth_of c.in_ok-good.good.value ≡ 0 = ap depth_of c.in_ok-good.ensures in omega (arith, n, c.in_ok-bad.ensures.sized.depth)
