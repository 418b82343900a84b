use Rattle.std.proofs.Common.{arith}
use Rattle.cl_typing.proofs.making.optional.Goals as goal

pub made-requires-clause-keys : goal.made-requires-clause-keys
made-requires-clause-keys c = c.in_ok-part.ensures.sized.keys

pub made-requires-clause-depth : goal.made-requires-clause-depth
made-requires-clause-depth c = omega (arith, c.in_ok-part.ensures.sized.depth)
