-- Costs in five dimensions, as whole numbers without an end.
use Rattle.std.specs.Prelude.{◌≡◌, ℕ, ◌+◌, ◌*◌, ◌-◌, ◌^◌, ◌<◌, ◌≤◌, max, nat_lt, List, [], ◌∷◌, ◌++◌, All, codes, find, Option, None, Some, Result, Ok, Err}
pub use Rattle.cl_shapes.specs.declared.cost.Cost5.{Cost5}
pub use Rattle.cl_shapes.specs.declared.cost.Dimension.{Dimension}
pub use Rattle.cl_shapes.specs.declared.cost.Dimension.TheVariants.{Runtime, ReadCount, ReadLength, WriteCount, WriteLength}

-- the dimensions in their order
abbrev pub dimensions : List Dimension
dimensions = Runtime ∷ ReadCount ∷ ReadLength ∷ WriteCount ∷ WriteLength ∷ []

abbrev pub dimension_name : Dimension → List ℕ
dimension_name Runtime = codes "runtime"
dimension_name ReadCount = codes "read_count"
dimension_name ReadLength = codes "read_length"
dimension_name WriteCount = codes "write_count"
dimension_name WriteLength = codes "write_length"

-- a cost's number in one dimension
abbrev pub part : Dimension → Cost5 → ℕ
part Runtime cost = cost.runtime
part ReadCount cost = cost.read_count
part ReadLength cost = cost.read_length
part WriteCount cost = cost.write_count
part WriteLength cost = cost.write_length

abbrev pub cost5 : ℕ → ℕ → ℕ → ℕ → ℕ → Cost5
cost5 r rc rl wc wl = record { runtime = r; read_count = rc; read_length = rl; write_count = wc; write_length = wl }

-- a cost with the same number in each dimension
abbrev pub in_each : ℕ → Cost5
in_each n = cost5 n n n n n

abbrev pub zero_cost : Cost5
zero_cost = in_each 0

abbrev pub plus : Cost5 → Cost5 → Cost5
plus a b = cost5 (a.runtime + b.runtime) (a.read_count + b.read_count) (a.read_length + b.read_length) (a.write_count + b.write_count) (a.write_length + b.write_length)

abbrev pub times : Cost5 → ℕ → Cost5
times a k = cost5 (a.runtime * k) (a.read_count * k) (a.read_length * k) (a.write_count * k) (a.write_length * k)

-- the greater number in each dimension
abbrev pub greater : Cost5 → Cost5 → Cost5
greater a b = cost5 (max a.runtime b.runtime) (max a.read_count b.read_count) (max a.read_length b.read_length) (max a.write_count b.write_count) (max a.write_length b.write_length)

-- in each dimension a is at most b
pub record IsAtMost (a b : Cost5) : Type 0 where
  pub runtime : a.runtime ≤ b.runtime
  pub read_count : a.read_count ≤ b.read_count
  pub read_length : a.read_length ≤ b.read_length
  pub write_count : a.write_count ≤ b.write_count
  pub write_length : a.write_length ≤ b.write_length

-- in each dimension the cost is below n
pub record IsBelow (n : ℕ) (cost : Cost5) : Type 0 where
  pub runtime : cost.runtime < n
  pub read_count : cost.read_count < n
  pub read_length : cost.read_length < n
  pub write_count : cost.write_count < n
  pub write_length : cost.write_length < n

-- the first dimension in which a cost is above a limit
abbrev pub first_above : Cost5 → Cost5 → Option Dimension
first_above limit cost = find (λ d. nat_lt (part d limit) (part d cost)) dimensions

-- d is the first dimension in which the cost is above the limit: of the dimensions in order, it is at most the limit
-- in all before d
pub record IsFirstAbove (limit cost : Cost5) (d : Dimension) : Type 0 where
  pub before : List Dimension
  pub after : List Dimension
  pub order : dimensions ≡ before ++ d ∷ after
  pub within : All (λ e. part e cost ≤ part e limit) before
  pub above : part d limit < part d cost

-- the cost, or the first dimension in which it doesn't fit 128 bits
abbrev pub counted : Cost5 → Result Cost5 Dimension
counted cost = elim (first_above (in_each (2 ^ 128 - 1)) cost) [ None ↦ Ok cost | Some d ↦ Err d ]
