use Rattle.std.proofs.Common.{subst}
use Rattle.cl_costs.specs.Tables.{function_of}
use Rattle.cl_contracts.specs.declared.parts.Parts.{Parts}
use Rattle.cl_bound.specs.Known.{AreBoundsOf}
use Rattle.cl_bound.proofs.under.take_in.Goals as goal

pub returns : goal.returns
returns c contracts are =
    let table = function_of c.args.costs.now in
    c.add.ensures table contracts c.args.contract.now (c.in_ok-reserve.ensures.same table contracts are)
    (subst (λ (q : Parts). AreBoundsOf table contracts q c.in_ok-bounds.bounds) c.parts.ensures (c.in_ok-bounds.ensures contracts are))
