-- The logarithm rounds down, and no shape falls.
use Rattle.std.proofs.Common.{◌≡◌, inl, inr, ℕ, zero, suc, ◌+◌, ◌*◌, ◌/◌, ◌^◌, ◌<◌, ◌≤◌, refl, add-one, arith}
use Rattle.std.proofs.lemmas.Bool.{cases_lt, lt-ltb, le-ltb}
use Rattle.std.proofs.lemmas.Nat.{pow_pos}
use Rattle.std.proofs.Math.Nat.{pow-suc, mul-le-mul, mul-le-mul_left}
use Rattle.std.proofs.Math.Pow.{pow_mono}
use Rattle.cl_shapes.specs.Costs.{IsAtMost}
use Rattle.cl_shapes.specs.Functions.{halvings, log2, IsLog2, Shape, Constant, Linear, Logn, Nlogn, shape_at, CostFn, cost_at}

-- ---- the equations of the halvings

halvings-small : (most n : ℕ) → n < 2 → halvings (suc most) n ≡ 0
unfolding halvings
halvings-small most n small = rw (lt-ltb n 2 small, halvings) refl

halvings-large : (most n : ℕ) → 2 ≤ n → halvings (suc most) n ≡ suc (halvings most (n / 2))
unfolding halvings
halvings-large most n large = rw (le-ltb n 2 large, halvings) refl

-- ---- the logarithm rounds down

pub next-power : (k : ℕ) → 2 ^ (k + 1) ≡ 2 * 2 ^ k
next-power k = rw add-one (omega (arith, pow-suc 2 k))

-- where half of n has the logarithm k, n has the next one
IsLog2-double : (n k : ℕ) → IsLog2 (n / 2) k → IsLog2 n (suc k)
IsLog2-double n k half = record {
  power_le = omega (arith, pow-suc 2 k, half.power_le);
  next_power_gt = omega (arith, next-power (suc k), next-power k, pow-suc 2 k, half.next_power_gt);
}

halvings_is : (most n : ℕ) → n ≤ most → 0 < n → IsLog2 n (halvings most n)
halvings_is zero n enough positive = absurd (omega arith)
halvings_is (suc most) n enough positive =
    elim (cases_lt n 2) [
      | inl small ↦ let e : n ≡ 1 = omega arith in rw (halvings-small most n small, e) (record { power_le = omega arith; next_power_gt = omega arith })
      | inr large ↦ rw (halvings-large most n large) (IsLog2-double n (halvings most (n / 2)) (halvings_is most (n / 2) (omega arith) (omega arith)))
    ]

pub log2_is : (n : ℕ) → 0 < n → IsLog2 n (log2 n)
unfolding log2
log2_is n positive = halvings_is n n (omega arith) positive

pub log2-zero : log2 0 ≡ 0
unfolding log2 halvings
log2-zero = refl

-- a power that is at most a number below the next power is no greater
below_next : (n m j k : ℕ) → IsLog2 n j → IsLog2 m k → n ≤ m → j ≤ k
below_next n m j k p q h =
    elim (cases_lt k j) [
      | inl beyond ↦ let grows : 2 ^ (k + 1) ≤ 2 ^ j = pow_mono {i = k + 1} {j = j} (omega arith) in absurd (omega (arith, p.power_le, q.next_power_gt))
      | inr within ↦ within
    ]

-- a number has one logarithm
pub IsLog2-unique : (n k : ℕ) → IsLog2 n k → k ≡ log2 n
IsLog2-unique n k p =
    let positive : 0 < n = omega (arith, pow_pos k, p.power_le) in
    omega (arith, below_next n n k (log2 n) p (log2_is n positive) (omega arith), below_next n n (log2 n) k (log2_is n positive) p (omega arith))

pub log2-mono : (m n : ℕ) → m ≤ n → log2 m ≤ log2 n
log2-mono m n h =
    elim (cases_lt 0 m) [
      | inl positive ↦ below_next m n (log2 m) (log2 n) (log2_is m positive) (log2_is n (omega arith)) h
      | inr none ↦ let e : m ≡ 0 = omega arith in rw (e, log2-zero) (omega arith)
    ]

-- ---- no shape falls

pub shape_at-mono : (shape : Shape) (m n : ℕ) → m ≤ n → shape_at shape m ≤ shape_at shape n
shape_at-mono (Constant b) m n h = omega arith
shape_at-mono (Linear a b) m n h = omega (arith, mul-le-mul_left a h)
shape_at-mono (Logn a b) m n h = omega (arith, mul-le-mul_left a (log2-mono m n h))
shape_at-mono (Nlogn a b) m n h =
    let scaled : a * m ≤ a * n = mul-le-mul_left a h in
    omega (arith, mul-le-mul scaled (log2-mono m n h))

pub cost_at-mono : (f : CostFn) (m n : ℕ) → m ≤ n → IsAtMost (cost_at f m) (cost_at f n)
cost_at-mono f m n h = record {
  runtime = shape_at-mono f.runtime m n h;
  read_count = shape_at-mono f.read_count m n h;
  read_length = shape_at-mono f.read_length m n h;
  write_count = shape_at-mono f.write_count m n h;
  write_length = shape_at-mono f.write_length m n h;
}
