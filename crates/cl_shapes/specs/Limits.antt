-- What is spent under a limit.
use Rattle.std.specs.Prelude.{ℕ, List, slice_index, None, Some, Result, Ok, Err}
use Rattle.cl_shapes.specs.Costs.{Cost5, cost5, part, plus, zero_cost, first_above}
pub use Rattle.cl_shapes.specs.declared.limit.Over.{Over}

-- a limit, and what was spent of it
pub record Purse : Type 0 where
  pub limit : Cost5
  pub spent : Cost5

-- five numbers in the order of the dimensions
abbrev pub limit_of : List ℕ → Cost5
limit_of xs = cost5 (slice_index xs 0) (slice_index xs 1) (slice_index xs 2) (slice_index xs 3) (slice_index xs 4)

abbrev pub full : List ℕ → Purse
full limit = record { limit = limit_of limit; spent = zero_cost }

-- what a cost leaves; or the sum that is above the limit, with the first dimension in which it is
abbrev pub spend : Purse → Cost5 → Result Purse Over
spend purse cost =
    let sum = plus purse.spent cost in
    elim (first_above purse.limit sum) [
      | None ↦ Ok (record { limit = purse.limit; spent = sum })
      | Some d ↦ Err (record { dimension = d; attempted = sum; limit = part d purse.limit })
    ]
