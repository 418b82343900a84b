-- The square root and the logarithm to base 2, rounded down.
use Rattle.std.specs.Prelude.{ℕ, zero, suc, ◌+◌, ◌*◌, ◌^◌, ◌<◌, ◌≤◌, Bool, nat_le, if◌then◌else◌, ℤ, pos, negsuc, Result, Ok, Err}
use Rattle.cl_arith.specs.Numbers.{ArithRefusal, NegativeArgument}

-- the greatest number from `base` to below `base + 2 ^ bits` that passes a test, found bit by bit: the test is to
-- fail at each number above one at which it fails
unfoldable pub greatest_from : ℕ → ℕ → (ℕ → Bool) → ℕ
greatest_from base zero test = base
greatest_from base (suc bits) test = greatest_from (if test (base + 2 ^ bits) then base + 2 ^ bits else base) bits test

-- for n below 2^128
unfoldable pub square_root : ℕ → ℕ
square_root n = greatest_from 0 64 (λ r. nat_le (r * r) n)

-- for n from 1 to below 2^128
unfoldable pub log2 : ℕ → ℕ
log2 n = greatest_from 0 7 (λ k. nat_le (2 ^ k) n)

-- r is the square root of n, rounded down
pub record IsSquareRoot (n r : ℕ) : Type 0 where
  pub square_le : r * r ≤ n
  pub next_square_gt : n < (r + 1) * (r + 1)

-- k is the logarithm of n to base 2, rounded down
pub record IsLog2 (n k : ℕ) : Type 0 where
  pub power_le : 2 ^ k ≤ n
  pub next_power_gt : n < 2 ^ (k + 1)

abbrev pub root_of : ℤ → Result ℤ ArithRefusal
root_of (pos n) = Ok (pos (square_root n))
root_of (negsuc n) = Err NegativeArgument

abbrev pub log2_of : ℤ → Result ℤ ArithRefusal
log2_of (pos zero) = Err NegativeArgument
log2_of (pos n) = Ok (pos (log2 n))
log2_of (negsuc n) = Err NegativeArgument
