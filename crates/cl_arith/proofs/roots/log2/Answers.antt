use Rattle.std.proofs.Common.{◌∙◌, add-one, arith}
use Rattle.std.proofs.Math.Nat.{pow-suc}
use Rattle.cl_arith.proofs.Greatest.{IsLog2-unique}
use Rattle.cl_arith.proofs.roots.log2.Goals as goal

pub returns-clause-value : goal.returns-clause-value
returns-clause-value c =
    c.from.ensures ∙ IsLog2-unique c.args.n c.ilog2.result c.requires (omega arith) (record {
      power_le = c.ilog2.ensures.power_le;
      next_power_gt = rw add-one (omega (arith, pow-suc 2 c.ilog2.result, c.ilog2.ensures.next_power_gt));
    })
