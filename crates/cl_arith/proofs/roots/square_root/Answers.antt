use Rattle.std.proofs.Common.{arith}
use Rattle.cl_arith.proofs.Greatest.{IsSquareRoot-unique}
use Rattle.cl_arith.proofs.roots.square_root.Goals as goal

pub returns-clause-value : goal.returns-clause-value
returns-clause-value c =
    IsSquareRoot-unique c.args.n c.isqrt.result (omega arith) (record {
      square_le = c.isqrt.ensures.square_le;
      next_square_gt = c.isqrt.ensures.next_square_gt;
    })
