-- A bound as data: what is counted, by names and numbers. Its cost comes from a table alone.
use Rattle.std.specs.Prelude.{ℕ}
use Rattle.cl_shapes.specs.declared.cost.Cost5.{Cost5}
use Rattle.cl_shapes.specs.declared.name.CostName.{CostName}
use Rattle.cl_shapes.specs.Names.{CostTable}
use Rattle.cl_shapes.specs.Costs.{plus, greater, times, zero_cost}
use Rattle.cl_shapes.specs.Functions.{cost_at}

-- nothing; one charge; two bills one after the other; of two the greater in each dimension; a bill so many times
pub data Bill : Type 0 where
  Free : Bill
  Charge : CostName → ℕ → Bill
  Both Greater : Bill → Bill → Bill
  Times : ℕ → Bill → Bill

abbrev pub cost_under : CostTable → Bill → Cost5
cost_under table Free = zero_cost
cost_under table (Charge name n) = cost_at (table name) n
cost_under table (Both a b) = plus (cost_under table a) (cost_under table b)
cost_under table (Greater a b) = greater (cost_under table a) (cost_under table b)
cost_under table (Times n a) = times (cost_under table a) n
