-- The search bit by bit finds the last number that passes, so roots and logarithms are rounded down.
use Rattle.std.proofs.Common.{◌≡◌, inl, inr, ℕ, zero, suc, ◌+◌, ◌*◌, ◌^◌, ◌<◌, ◌≤◌, Bool, true, false, arith}
use Rattle.std.specs.Prelude.{nat_le}
use Rattle.std.proofs.lemmas.Bool.{cases_lt, cases_Bool, both_ways, cond-true, cond-false, le-leb, lt-leb, leb-true, leb-false}
use Rattle.std.proofs.Math.Nat.{pow-suc, mul-le-mul}
use Rattle.std.proofs.Math.Pow.{pow_mono}
use Rattle.cl_arith.specs.Roots.{greatest_from, square_root, log2, IsSquareRoot, IsLog2}

-- r passes a test, and the number after it doesn't
record IsLast (test : ℕ → Bool) (r : ℕ) : Type 0 where
  passes : test r ≡ true
  next_fails : test (r + 1) ≡ false

greatest_from-last : (base bits : ℕ) (test : ℕ → Bool) → test base ≡ true → test (base + 2 ^ bits) ≡ false → IsLast test (greatest_from base bits test)
unfolding greatest_from
greatest_from-last base zero test passes fails = record { passes = passes; next_fails = fails }
greatest_from-last base (suc bits) test passes fails =
    let middle : ℕ = base + 2 ^ bits in
    elim (cases_Bool (test (base + 2 ^ bits))) [
      | inl above ↦
          let e : base + 2 ^ suc bits ≡ base + 2 ^ bits + 2 ^ bits = omega (arith, pow-suc 2 bits) in
          rw (cond-true (test (base + 2 ^ bits)) (base + 2 ^ bits) base above) (greatest_from-last (base + 2 ^ bits) bits test above (rw e at fails))
      | inr below ↦
          rw (cond-false (test (base + 2 ^ bits)) (base + 2 ^ bits) base below) (greatest_from-last base bits test passes below)
    ]

-- a test that fails above each number at which it fails has one last number
last_within : (test : ℕ → Bool) → ((m n : ℕ) → m ≤ n → test n ≡ true → test m ≡ true) → (r s : ℕ) → IsLast test r → IsLast test s → r ≤ s
last_within test falls r s p q =
    elim (cases_lt s r) [
      | inl beyond ↦ absurd (both_ways (test (s + 1)) q.next_fails (falls (s + 1) r (omega arith) p.passes))
      | inr within ↦ within
    ]

IsLast-unique : (test : ℕ → Bool) → ((m n : ℕ) → m ≤ n → test n ≡ true → test m ≡ true) → (r s : ℕ) → IsLast test r → IsLast test s → r ≡ s
IsLast-unique test falls r s p q = omega (arith, last_within test falls r s p q, last_within test falls s r q p)

-- ---- the square root

abbrev squares_within : ℕ → ℕ → Bool
squares_within n r = nat_le (r * r) n

pub square_root_is : (n : ℕ) → n < 2 ^ 128 → IsSquareRoot n (square_root n)
unfolding square_root
square_root_is n small =
    let last : IsLast (squares_within n) (greatest_from 0 64 (squares_within n)) = greatest_from-last 0 64 (squares_within n) (le-leb 0 n (omega arith)) (lt-leb (2 ^ 128) n small) in
    record { square_le = leb-true _ _ last.passes; next_square_gt = leb-false _ _ last.next_fails }

IsSquareRoot-last : (n r : ℕ) → IsSquareRoot n r → IsLast (squares_within n) r
IsSquareRoot-last n r root = record { passes = le-leb _ _ root.square_le; next_fails = lt-leb _ _ root.next_square_gt }

squares_fall : (n r s : ℕ) → r ≤ s → squares_within n s ≡ true → squares_within n r ≡ true
squares_fall n r s h passes = le-leb _ _ (omega (arith, mul-le-mul h h, leb-true (s * s) n passes))

pub IsSquareRoot-unique : (n r : ℕ) → n < 2 ^ 128 → IsSquareRoot n r → r ≡ square_root n
IsSquareRoot-unique n r small root =
    IsLast-unique (squares_within n) (squares_fall n) r (square_root n) (IsSquareRoot-last n r root) (IsSquareRoot-last n (square_root n) (square_root_is n small))

-- ---- the logarithm

abbrev powers_within : ℕ → ℕ → Bool
powers_within n k = nat_le (2 ^ k) n

pub log2_is : (n : ℕ) → 0 < n → n < 2 ^ 128 → IsLog2 n (log2 n)
unfolding log2
log2_is n positive small =
    let last : IsLast (powers_within n) (greatest_from 0 7 (powers_within n)) = greatest_from-last 0 7 (powers_within n) (le-leb 1 n positive) (lt-leb (2 ^ 128) n small) in
    record { power_le = leb-true _ _ last.passes; next_power_gt = leb-false _ _ last.next_fails }

IsLog2-last : (n k : ℕ) → IsLog2 n k → IsLast (powers_within n) k
IsLog2-last n k logarithm = record { passes = le-leb _ _ logarithm.power_le; next_fails = lt-leb _ _ logarithm.next_power_gt }

powers_fall : (n j k : ℕ) → j ≤ k → powers_within n k ≡ true → powers_within n j ≡ true
powers_fall n j k h passes = le-leb _ _ (omega (arith, pow_mono {i = j} {j = k} h, leb-true (2 ^ k) n passes))

pub IsLog2-unique : (n k : ℕ) → 0 < n → n < 2 ^ 128 → IsLog2 n k → k ≡ log2 n
IsLog2-unique n k positive small logarithm =
    IsLast-unique (powers_within n) (powers_fall n) k (log2 n) (IsLog2-last n k logarithm) (IsLog2-last n (log2 n) (log2_is n positive small))
