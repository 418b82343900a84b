-- Powers by squaring.
use Rattle.std.proofs.Common.{◌≡◌, inl, inr, ℕ, zero, suc, ◌+◌, ◌*◌, ◌/◌, ◌%◌, ◌^◌, ◌<◌, ◌≤◌, sym, ◌∙◌, ap, add-one, arith}
use Rattle.std.proofs.lemmas.Bool.{cases_lt}
use Rattle.std.proofs.lemmas.Nat.{pow-add, mul-pow}
use Rattle.std.proofs.Math.Nat.{pow-zero, pow-suc, pow-le-pow_right, mul-le-mul_left, mul-le-mul_right}

-- a power of which `power` is taken, and `square` is to be taken `left` times
pub record IsUnderway (base exponent power square left : ℕ) : Type 0 where
  pub positive : 0 < left
  pub product : power * square ^ left ≡ base ^ exponent
  pub nonzero : 0 < square → 0 < power

-- ---- the steps

pow-one : (s : ℕ) → s ^ 1 ≡ s
pow-one s = pow-suc s 0 ∙ rw (pow-zero s) (omega arith)

-- an exponent by its half, and by its half and one more
pow-twice : (s k : ℕ) → s ^ (2 * k) ≡ (s * s) ^ k
pow-twice s k =
    let e : 2 * k ≡ k + k = omega arith in
    rw e (pow-add s k k ∙ sym (mul-pow s s k))

pow-twice_suc : (s k : ℕ) → s ^ (2 * k + 1) ≡ (s * s) ^ k * s
pow-twice_suc s k = rw add-one (pow-suc s (2 * k) ∙ ap (λ n. n * s) (pow-twice s k))

square-positive : (s : ℕ) → 0 < s * s → 0 < s
square-positive zero h = absurd (omega arith)
square-positive (suc s) h = omega arith

product-positive : (p s : ℕ) → 0 < p → 0 < s → 0 < p * s
product-positive p zero h k = absurd (omega arith)
product-positive p (suc s) h k = omega (arith, h)

pub even_step : (b e p s left : ℕ) → IsUnderway b e p s left → 1 < left → left % 2 ≡ 0 → IsUnderway b e p (s * s) (left / 2)
even_step b e p s left under more even =
    let twice : left ≡ 2 * (left / 2) = omega arith in
    record {
      positive = omega arith;
      product = ap (λ n. p * n) (sym (ap (λ n. s ^ n) twice ∙ pow-twice s (left / 2))) ∙ under.product;
      nonzero = λ h. under.nonzero (square-positive s h);
    }

pub odd_step : (b e p s left : ℕ) → IsUnderway b e p s left → 1 < left → left % 2 ≡ 1 → IsUnderway b e (p * s) (s * s) (left / 2)
odd_step b e p s left under more odd =
    let twice : left ≡ 2 * (left / 2) + 1 = omega arith in
    let power : s ^ left ≡ (s * s) ^ (left / 2) * s = ap (λ n. s ^ n) twice ∙ pow-twice_suc s (left / 2) in
    let regroup : p * s * (s * s) ^ (left / 2) ≡ p * ((s * s) ^ (left / 2) * s) = omega arith in
    record {
      positive = omega arith;
      product = regroup ∙ sym (ap (λ n. p * n) power) ∙ under.product;
      nonzero = λ h. let positive : 0 < s = square-positive s h in product-positive p s (under.nonzero positive) positive;
    }

-- ---- the ends

pub last_step : (b e p s left : ℕ) → IsUnderway b e p s left → left ≤ 1 → b ^ e ≡ p * s
last_step b e p s left under done =
    let one : left ≡ 1 = omega (arith, under.positive) in
    sym under.product ∙ ap (λ n. p * n) (ap (λ n. s ^ n) one ∙ pow-one s)

-- where the next product or square is too large, so is the power
pub product_within : (b e p s left : ℕ) → IsUnderway b e p s left → b ^ e < 2 ^ 128 → p * s < 2 ^ 128
product_within b e p s left under small =
    elim (cases_lt 0 s) [
      | inl positive ↦
          let more : s ≤ s ^ left = rw (pow-one s) at (pow-le-pow_right {n = s} positive {i = 1} {j = left} under.positive) in
          omega (arith, under.product, mul-le-mul_left p more)
      | inr none ↦ let e : s ≡ 0 = omega arith in rw e (omega arith)
    ]

pub square_within : (b e p s left : ℕ) → IsUnderway b e p s left → 1 < left → b ^ e < 2 ^ 128 → s * s < 2 ^ 128
square_within b e p s left under more small =
    elim (cases_lt 0 s) [
      | inl positive ↦
          let rises : s ^ 2 ≤ s ^ left = pow-le-pow_right positive more in
          let two : s ^ 2 ≡ s * s = pow-suc s 1 ∙ ap (λ n. n * s) (pow-one s) in
          let taken : 1 * s ^ left ≤ p * s ^ left = mul-le-mul_right (s ^ left) (under.nonzero positive) in
          omega (arith, under.product, two, rises, taken)
      | inr none ↦ let e : s ≡ 0 = omega arith in rw e (omega arith)
    ]
