-- What a cost function is at a number.
use Rattle.std.specs.Prelude.{ℕ, zero, suc, ◌+◌, ◌*◌, ◌/◌, ◌^◌, ◌<◌, ◌≤◌, true, false, nat_lt}
use Rattle.cl_shapes.specs.Costs.{Cost5, cost5}
pub use Rattle.cl_shapes.specs.declared.function.Shape.{Shape}
pub use Rattle.cl_shapes.specs.declared.function.Shape.TheVariants.{Constant, Linear, Logn, Nlogn}
pub use Rattle.cl_shapes.specs.declared.function.CostFn.{CostFn}

-- how often n can be halved before it is below 2, which is at most the first number
unfoldable pub halvings : ℕ → ℕ → ℕ
halvings zero n = 0
halvings (suc most) n = elim (nat_lt n 2) [ true ↦ 0 | false ↦ suc (halvings most (n / 2)) ]

-- the logarithm to base 2, rounded down; that of 0 is 0
unfoldable pub log2 : ℕ → ℕ
log2 n = halvings n n

-- k is the logarithm of n to base 2, rounded down
pub record IsLog2 (n k : ℕ) : Type 0 where
  pub power_le : 2 ^ k ≤ n
  pub next_power_gt : n < 2 ^ (k + 1)

abbrev pub shape_at : Shape → ℕ → ℕ
shape_at (Constant b) n = b
shape_at (Linear a b) n = a * n + b
shape_at (Logn a b) n = a * log2 n + b
shape_at (Nlogn a b) n = a * n * log2 n + b

abbrev pub cost_at : CostFn → ℕ → Cost5
cost_at f n = cost5 (shape_at f.runtime n) (shape_at f.read_count n) (shape_at f.read_length n) (shape_at f.write_count n) (shape_at f.write_length n)
