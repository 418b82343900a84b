-- Operations on bits: what they give is in range, and each bit is what the operation says.
use Rattle.std.proofs.Common.{◌≡◌, ℕ, zero, suc, ◌+◌, ◌-◌, ◌*◌, ◌<◌, ◌≤◌, ◌^◌, refl, sym, ap, subst, ◌∙◌, arith, pow-suc}
use Rattle.std.specs.Prelude.{pos, negsuc, ◌/◌, ◌%◌, min, max, FitsSigned, bit_and, bit_or, bit_xor}
use Rattle.std.specs.Int.{w128, bit_at, bit_not, cast_unsigned}
use Rattle.std.proofs.lemmas.Nat.{and_le_l, or_lt, xor_lt, shr_le, shr-shr, shr_split, pow_pos}
use Rattle.std.proofs.lemmas.Nat.Bits.{bit_at_lowest, bit_at-suc, bit_at-zero, bit_at_and, bit_at_or, bit_at_xor, bit_at_above, bit_at_cat_low, bit_at_cat_high, same_from_bits_below}
use Rattle.std.proofs.lemmas.Int.{of_z-to_z, to_z-of_z}
use Rattle.std.proofs.Math.Facts.{sfits_to_z, Fits-of_lt}
use Rattle.cl_arith.specs.Numbers.{Num, Int, Uint, Kind, IntKind, UintKind, kind_of}
use Rattle.cl_arith.specs.Operations.{bits_of, of_bits, exclusive_or}
use Rattle.cl_arith.specs.Bits.{bit, conjunction, disjunction, complement, distance, shifted_left, shifted_right, following}
use Rattle.cl_arith.specs.Ranges.{IsNumber}
use Rattle.cl_arith.proofs.Ranges.{its_kind, bits_below}

-- ---- bits and numbers

pub low_bits : (kind : Kind) (a : Num) → IsNumber kind a → bits_of a < 2 ^ 128
low_bits IntKind (Int z) h = bits_below z h
low_bits UintKind (Uint n) h = h
low_bits IntKind (Uint n) h = absurd h
low_bits UintKind (Int z) h = absurd h

-- the number of so many bits
of_low : (kind : Kind) (n : ℕ) → n < 2 ^ 128 → IsNumber kind (of_bits kind n)
of_low IntKind n h = sfits_to_z {w = w128} {n = n} (Fits-of_lt {w = w128} {n = n} h)
of_low UintKind n h = h

bits_again : (kind : Kind) (n : ℕ) → n < 2 ^ 128 → bits_of (of_bits kind n) ≡ n
bits_again IntKind n h = of_z-to_z w128 n h
bits_again UintKind n h = refl

-- a number is that of its bits
of_its_bits : (kind : Kind) (a : Num) → IsNumber kind a → of_bits kind (bits_of a) ≡ a
of_its_bits IntKind (Int z) h = ap Int (to_z-of_z w128 z h)
of_its_bits UintKind (Uint n) h = refl
of_its_bits IntKind (Uint n) h = absurd h
of_its_bits UintKind (Int z) h = absurd h

pub same_number : (kind : Kind) (a b : Num) → IsNumber kind a → IsNumber kind b → ((place : ℕ) → place < 128 → bit a place ≡ bit b place) → a ≡ b
same_number kind a b h k same =
    sym (of_its_bits kind a h) ∙ ap (of_bits kind) (same_from_bits_below 128 (bits_of a) (bits_of b) (low_bits kind a h) (low_bits kind b k) same) ∙ of_its_bits kind b k

-- what is made of bits, of the kind of a number
made : (kind : Kind) (a : Num) (n : ℕ) → IsNumber kind a → n < 2 ^ 128 → IsNumber kind (of_bits (kind_of a) n)
made kind a n h low = subst (λ k. IsNumber kind (of_bits k n)) (sym (its_kind kind a h)) (of_low kind n low)

bit_made : (kind : Kind) (a : Num) (n place : ℕ) → IsNumber kind a → n < 2 ^ 128 → bit (of_bits (kind_of a) n) place ≡ bit_at n place
bit_made kind a n place h low = ap (λ m. bit_at m place) (bits_again (kind_of a) n low)

-- ---- and, or, xor

and_low : (a b : ℕ) → a < 2 ^ 128 → bit_and a b < 2 ^ 128
and_low a b h = let least = and_le_l a b in omega (arith, h, least)

pub conjunction_fits : (kind : Kind) (a b : Num) → IsNumber kind a → IsNumber kind b → IsNumber kind (conjunction a b)
conjunction_fits kind a b h k = made kind a (bit_and (bits_of a) (bits_of b)) h (and_low (bits_of a) (bits_of b) (low_bits kind a h))

pub conjunction_bit : (kind : Kind) (a b : Num) → IsNumber kind a → IsNumber kind b → (place : ℕ) → bit (conjunction a b) place ≡ min (bit a place) (bit b place)
conjunction_bit kind a b h k place =
    bit_made kind a (bit_and (bits_of a) (bits_of b)) place h (and_low (bits_of a) (bits_of b) (low_bits kind a h)) ∙ bit_at_and (bits_of a) (bits_of b) place

pub disjunction_fits : (kind : Kind) (a b : Num) → IsNumber kind a → IsNumber kind b → IsNumber kind (disjunction a b)
disjunction_fits kind a b h k = made kind a (bit_or (bits_of a) (bits_of b)) h (or_lt 128 (bits_of a) (bits_of b) (low_bits kind a h) (low_bits kind b k))

pub disjunction_bit : (kind : Kind) (a b : Num) → IsNumber kind a → IsNumber kind b → (place : ℕ) → bit (disjunction a b) place ≡ max (bit a place) (bit b place)
disjunction_bit kind a b h k place =
    bit_made kind a (bit_or (bits_of a) (bits_of b)) place h (or_lt 128 (bits_of a) (bits_of b) (low_bits kind a h) (low_bits kind b k)) ∙ bit_at_or (bits_of a) (bits_of b) place

pub exclusive_bit : (kind : Kind) (a b : Num) → IsNumber kind a → IsNumber kind b → (place : ℕ) → bit (exclusive_or a b) place ≡ (bit a place + bit b place) % 2
exclusive_bit kind a b h k place =
    bit_made kind a (bit_xor (bits_of a) (bits_of b)) place h (xor_lt 128 (bits_of a) (bits_of b) (low_bits kind a h) (low_bits kind b k)) ∙ bit_at_xor (bits_of a) (bits_of b) place

-- ---- not

other_bit : (k n i : ℕ) → n < 2 ^ k → i < k → bit_at (2 ^ k - 1 - n) i ≡ 1 - bit_at n i
other_bit zero n i fits within = absurd (omega arith)
other_bit (suc k) n zero fits within = omega (arith, bit_at_lowest (2 ^ suc k - 1 - n), bit_at_lowest n, pow-suc 2 k)
other_bit (suc k) n (suc i) fits within =
    let half : (2 ^ suc k - 1 - n) / 2 ≡ 2 ^ k - 1 - n / 2 = omega (arith, pow-suc 2 k) in
    bit_at-suc _ i ∙ ap (λ x. bit_at x i) half ∙ other_bit k (n / 2) i (omega (arith, pow-suc 2 k)) (omega arith) ∙ ap (λ d. 1 - d) (sym (bit_at-suc n i))

not_low : (n : ℕ) → 2 ^ 128 - 1 - n < 2 ^ 128
not_low n = omega arith

pub complement_fits : (kind : Kind) (a : Num) → IsNumber kind a → IsNumber kind (complement a)
complement_fits kind a h = made kind a (bit_not w128 (bits_of a)) h (not_low (bits_of a))

pub complement_bit : (kind : Kind) (a : Num) → IsNumber kind a → (place : ℕ) → place < 128 → bit (complement a) place ≡ 1 - bit a place
complement_bit kind a h place within =
    bit_made kind a (bit_not w128 (bits_of a)) place h (not_low (bits_of a)) ∙ other_bit 128 (bits_of a) place (low_bits kind a h) within

-- ---- shifts

rest_low : (n : ℕ) → n % 2 ^ 128 < 2 ^ 128
rest_low n = omega arith

-- the low bits of a number are those of the rest
rest_bit : (n i : ℕ) → i < 128 → bit_at (n % 2 ^ 128) i ≡ bit_at n i
rest_bit n i within = sym (bit_at_cat_low (n / 2 ^ 128) 128 (n % 2 ^ 128) i within) ∙ ap (λ m. bit_at m i) (shr_split n 128)

nothing_more : (n k : ℕ) → n * 2 ^ k + 0 ≡ n * 2 ^ k
nothing_more n k = omega arith

up_high : (n k i : ℕ) → k ≤ i → bit_at (n * 2 ^ k) i ≡ bit_at n (i - k)
up_high n k i from = ap (λ m. bit_at m i) (sym (nothing_more n k)) ∙ bit_at_cat_high n k 0 i (pow_pos k) from

up_low : (n k i : ℕ) → i < k → bit_at (n * 2 ^ k) i ≡ 0
up_low n k i within = ap (λ m. bit_at m i) (sym (nothing_more n k)) ∙ bit_at_cat_low n k 0 i within ∙ bit_at-zero i

pub left_fits : (kind : Kind) (a : Num) (places : ℕ) → IsNumber kind a → IsNumber kind (shifted_left a places)
left_fits kind a places h = made kind a ((bits_of a * 2 ^ distance places) % 2 ^ 128) h (rest_low (bits_of a * 2 ^ distance places))

pub left_bit : (kind : Kind) (a : Num) → IsNumber kind a → (places place : ℕ) → place < 128 → distance places ≤ place → bit (shifted_left a places) place ≡ bit a (place - distance places)
left_bit kind a h places place within from =
    bit_made kind a ((bits_of a * 2 ^ distance places) % 2 ^ 128) place h (rest_low (bits_of a * 2 ^ distance places))
    ∙ rest_bit (bits_of a * 2 ^ distance places) place within ∙ up_high (bits_of a) (distance places) place from

pub left_below : (kind : Kind) (a : Num) → IsNumber kind a → (places place : ℕ) → place < distance places → bit (shifted_left a places) place ≡ 0
left_below kind a h places place near =
    let within : place < 128 = omega (arith, near) in
    bit_made kind a ((bits_of a * 2 ^ distance places) % 2 ^ 128) place h (rest_low (bits_of a * 2 ^ distance places))
    ∙ rest_bit (bits_of a * 2 ^ distance places) place within ∙ up_low (bits_of a) (distance places) place near

down_bit : (n k i : ℕ) → bit_at (n / 2 ^ k) i ≡ bit_at n (i + k)
down_bit n k i = let along : k + i ≡ i + k = omega arith in ap (λ x. x % 2) (shr-shr n k i) ∙ ap (bit_at n) along

-- the bits of an int below 0
negative_bits : (n : ℕ) → cast_unsigned w128 (negsuc n) ≡ 2 ^ 128 - 1 - n
negative_bits n = omega arith

negative_bit : (n i : ℕ) → n < 2 ^ 127 → i < 128 → bit (Int (negsuc n)) i ≡ 1 - bit_at n i
negative_bit n i low within = let fits : n < 2 ^ 128 = omega (arith, low) in ap (λ m. bit_at m i) (negative_bits n) ∙ other_bit 128 n i fits within

down_low : (n k : ℕ) → n < 2 ^ 127 → n / 2 ^ k < 2 ^ 127
down_low n k low = let less = shr_le n k in omega (arith, low, less)

fits_low : (n : ℕ) → FitsSigned w128 (pos n) → n < 2 ^ 127
fits_low n h = omega (arith, h)

fits_low_negative : (n : ℕ) → FitsSigned w128 (negsuc n) → n < 2 ^ 127
fits_low_negative n h = omega (arith, h)

pub right_fits : (kind : Kind) (a : Num) (places : ℕ) → IsNumber kind a → IsNumber kind (shifted_right a places)
right_fits IntKind (Int (pos n)) places h = let low = down_low n (distance places) (fits_low n h) in record { sfits = omega (arith, low) }
right_fits IntKind (Int (negsuc n)) places h = let low = down_low n (distance places) (fits_low_negative n h) in record { sfits = omega (arith, low) }
right_fits UintKind (Uint n) places h = let less = shr_le n (distance places) in omega (arith, h, less)
right_fits IntKind (Uint n) places h = absurd h
right_fits UintKind (Int z) places h = absurd h

pub right_bit : (kind : Kind) (a : Num) → IsNumber kind a → (places place : ℕ) → place + distance places < 128 → bit (shifted_right a places) place ≡ bit a (place + distance places)
right_bit IntKind (Int (pos n)) h places place within = down_bit n (distance places) place
right_bit IntKind (Int (negsuc n)) h places place within =
    let near : place < 128 = omega (arith, within) in
    negative_bit (n / 2 ^ distance places) place (down_low n (distance places) (fits_low_negative n h)) near
    ∙ ap (λ b. 1 - b) (down_bit n (distance places) place)
    ∙ sym (negative_bit n (place + distance places) (fits_low_negative n h) within)
right_bit UintKind (Uint n) h places place within = down_bit n (distance places) place
right_bit IntKind (Uint n) h places place within = absurd h
right_bit UintKind (Int z) h places place within = absurd h

pub right_above : (kind : Kind) (a : Num) → IsNumber kind a → (places place : ℕ) → place < 128 → 128 ≤ place + distance places → bit (shifted_right a places) place ≡ following a
right_above IntKind (Int (pos n)) h places place within far =
    let low = fits_low n h in
    let from : 127 ≤ place + distance places = omega (arith, far) in
    let itself : 127 ≤ 127 = omega arith in
    down_bit n (distance places) place ∙ bit_at_above n 127 (place + distance places) low from ∙ sym (bit_at_above n 127 127 low itself)
right_above IntKind (Int (negsuc n)) h places place within far =
    let low = fits_low_negative n h in
    let from : 127 ≤ place + distance places = omega (arith, far) in
    let itself : 127 ≤ 127 = omega arith in
    let last : 127 < 128 = omega arith in
    negative_bit (n / 2 ^ distance places) place (down_low n (distance places) low) within
    ∙ ap (λ b. 1 - b) (down_bit n (distance places) place ∙ bit_at_above n 127 (place + distance places) low from ∙ sym (bit_at_above n 127 127 low itself))
    ∙ sym (negative_bit n 127 low last)
right_above UintKind (Uint n) h places place within far = down_bit n (distance places) place ∙ bit_at_above n 128 (place + distance places) h far
right_above IntKind (Uint n) h places place within far = absurd h
right_above UintKind (Int z) h places place within far = absurd h
