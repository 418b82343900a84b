use Rattle.std.proofs.Common.{rules}
use Rattle.cl_costs.specs.Numbers.{numbers_of}
use Rattle.cl_costs.proofs.Mapped.{results_of_calls}
use Rattle.cl_costs.proofs.numbers.all_numbers.Goals as goal

pub returns : goal.returns
returns c = results_of_calls numbers_of _ _ _ _ 24 c.told-functions (λ p q x y k. search rules) c.map.ensures.items
