use Rattle.std.proofs.Common.{◌∙◌}
use Rattle.cl_bound.proofs.Bounding.{are_kept}
use Rattle.cl_bound.proofs.bounds.contract_bounds.Goals as goal

pub returns : goal.returns
returns c contracts are =
    are_kept contracts c.args.parts.now c.deployment.new.prices c.args.costs.now c.kept.result c.kept.ensures.principal c.kept.ensures.length c.kept.ensures.functions (c.in_ok-deployment.ensures.costs ∙ c.new-prices.ensures.costs)
    (λ known D stand stands. (c.in_ok-deployment.ensures.defined known c.args.parts.now.principal D (c.new-prices.ensures.shown known c.args.parts.now.version c.args.parts.now.source_length (are known stand)) stands).0)
