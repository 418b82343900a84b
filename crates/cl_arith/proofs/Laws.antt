-- Quotients, remainders and powers of whole numbers.
use Rattle.std.proofs.Common.{◌≡◌, ◌≢◌, inl, inr, ℕ, zero, suc, ◌+◌, ◌*◌, ◌%◌, ◌^◌, ◌<◌, refl, sym, ◌∙◌, ap, add-one, arith}
use Rattle.std.specs.Prelude.{ℤ, pos, negsuc, ◌*ℤ◌, ◌≤ℤ◌, neg_ℤ, int_rem, unsigned_abs}
use Rattle.std.specs.Int.{int_pow}
use Rattle.std.proofs.lemmas.Bool.{cases_eq, eq-eqb, ne_eqb}
use Rattle.std.proofs.lemmas.Int.{rem_below, ints}
use Rattle.std.proofs.Math.Nat.{pow-suc, pow-zero, zero-mod, zero-mul}

pub unsigned_abs-int_rem : (x y : ℤ) → y ≢ pos 0 → unsigned_abs (int_rem x y) < unsigned_abs y
unsigned_abs-int_rem x (pos zero) nonzero = absurd (nonzero refl)
unsigned_abs-int_rem x (pos (suc b)) nonzero = rem_below x (pos (suc b)) (omega arith)
unsigned_abs-int_rem x (negsuc b) nonzero = rem_below x (negsuc b) (omega arith)

pub int_rem-nonnegative : (x y : ℤ) → pos 0 ≤ℤ x → pos 0 ≤ℤ int_rem x y
int_rem-nonnegative (pos a) y h = omega (arith, ints)
int_rem-nonnegative (negsuc a) y h = absurd (omega (arith, ints))

pub int_rem-nonpositive : (x y : ℤ) → x ≤ℤ pos 0 → int_rem x y ≤ℤ pos 0
int_rem-nonpositive (pos zero) y h = rw (zero-mod (unsigned_abs y)) h
int_rem-nonpositive (pos (suc a)) y h = absurd (omega (arith, ints))
int_rem-nonpositive (negsuc a) y h = omega (arith, ints)

-- ---- powers

pub int_pow-zero : (x : ℤ) → int_pow x 0 ≡ pos 1
int_pow-zero (pos a) = ap pos (pow-zero a)
int_pow-zero (negsuc a) = ap pos (pow-zero (suc a))

neg-times : (m a : ℕ) → neg_ℤ (pos m) *ℤ negsuc a ≡ pos (m * suc a)
neg-times zero a = rw zero-mul refl
neg-times (suc m) a = refl

pub int_pow-suc : (x : ℤ) (n : ℕ) → int_pow x (n + 1) ≡ int_pow x n *ℤ x
int_pow-suc (pos a) n = rw add-one (ap pos (pow-suc a n))
int_pow-suc (negsuc a) n =
    elim (cases_eq (n % 2) 0) [
      | inl even ↦
          let odd : (n + 1) % 2 ≡ 0 → ⊥ = λ e. omega (arith, even, e) in
          rw (eq-eqb (n % 2) 0 even, ne_eqb ((n + 1) % 2) 0 odd, add-one) (ap (λ m. neg_ℤ (pos m)) (pow-suc (suc a) n))
      | inr odd ↦
          let even : (n + 1) % 2 ≡ 0 = omega (arith, odd) in
          rw (ne_eqb (n % 2) 0 odd, eq-eqb ((n + 1) % 2) 0 even, add-one) (ap pos (pow-suc (suc a) n) ∙ sym (neg-times (suc a ^ n) a))
    ]
