use Rattle.std.proofs.Common.{refl}
use Rattle.cl_bound.proofs.Knowing.{begins}
use Rattle.cl_bound.proofs.prices.Prices.new.Goals as goal

pub returns-clause-shown : goal.returns-clause-shown
returns-clause-shown c known version size shows =
    begins (record { costs = c.args.costs.now; deployed = c.args.deployed; principal = c.args.principal.now; functions = c.with_hasher.result }) c.args.principal.now known version size refl c.with_hasher.ensures.empty shows
