-- Which charges a limit stops, in its own words.
use Rattle.std.specs.Prelude.{◌≡◌, ℕ, List, [], ◌∷◌, ◌++◌}
use Rattle.cl_shapes.specs.declared.cost.Cost5.{Cost5}
use Rattle.cl_shapes.specs.declared.limit.Over.{Over}
use Rattle.cl_shapes.specs.declared.name.CostName.{CostName}
use Rattle.cl_shapes.specs.Costs.{plus, part, IsAtMost, IsFirstAbove}
use Rattle.cl_shapes.specs.Limits.{Purse}
use Rattle.cl_meaning.specs.Answers.{Note, Charged, Ended}
use Rattle.cl_meaning.specs.Limits.{Costs, charges_of, cost_sum}
use Rattle.cl_meaning.specs.Trace.{Claim}

-- what is spent after a log, without regard to the limit
abbrev pub spent_after : Costs → Purse → List Note → Cost5
spent_after costs p log = plus p.spent (cost_sum costs (charges_of log))

-- what is spent after each first part of a log is within the limit
pub record IsWithin (costs : Costs) (p : Purse) (log : List Note) : Type 0 where
  pub each : (front back : List Note) → log ≡ front ++ back → IsAtMost (spent_after costs p front) p.limit

-- The shortest first part of a log after which more is spent than the limit: it ends with a charge. Over has the sum, the first
-- dimension in which it is above the limit, and the limit there.
pub record IsFirstOver (costs : Costs) (p : Purse) (log : List Note) (over : Over) : Type 0 where
  pub front : List Note
  pub name : CostName
  pub number : ℕ
  pub back : List Note
  pub order : log ≡ front ++ Charged name number ∷ back
  pub within : IsWithin costs p front
  pub sum : over.attempted ≡ spent_after costs p (front ++ Charged name number ∷ [])
  pub first : IsFirstAbove p.limit over.attempted over.dimension
  pub limit : over.limit ≡ part over.dimension p.limit

-- all nodes of a log that ended with a value
abbrev pub claims_in : List Note → List Claim
claims_in [] = []
claims_in (Charged name n ∷ log) = claims_in log
claims_in (Ended span v ∷ log) = record { span = span; value = v } ∷ claims_in log
