use Rattle.std.proofs.Common.{ℕ}
use Rattle.cl_c32.specs.declared.principal.Principal.{Principal}
use Rattle.cl_values.specs.Valid.{IsPrincipal}
use Rattle.cl_nodes.proofs.Valid.{one_more}
use Rattle.cl_nodes.proofs.parts.are_holders.Goals as goal

pub loop-holder-preserved : goal.loop-holder-preserved
loop-holder-preserved c =
    one_more (λ (h : Principal × ℕ). IsPrincipal h.0) c.args.holders.now c.loop-holder.holder-index c.holder-item.result c.holder-item.is c.loop-holder-test.true c.is_valid.ensures c.loop-holder.invariant
