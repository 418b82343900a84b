-- What is tested for the range is in it, and so is an exclusive or.
use Rattle.std.proofs.Common.{◌≡◌, ℕ, ◌-◌, ◌<◌, ◌≤◌, ◌^◌, Bool, true, false, Result, Ok, Err, refl, arith}
use Rattle.std.specs.Prelude.{ℤ, pos, negsuc, int_lt, nat_lt, if◌then◌else◌, FitsSigned, bit_xor}
use Rattle.std.specs.Int.{w128, cast_unsigned}
use Rattle.std.proofs.lemmas.Bool.{ltb-false}
use Rattle.std.proofs.lemmas.Nat.{xor_lt}
use Rattle.std.proofs.Math.Facts.{sfits_to_z, Fits-of_lt}
use Rattle.cl_arith.specs.Numbers.{Num, Int, Uint, ArithRefusal, Overflow, Underflow, Kind, IntKind, UintKind, kind_of, in_range, int_number, uint_number}
use Rattle.cl_arith.specs.Operations.{tested, exclusive_or}
use Rattle.cl_arith.specs.Ranges.{IsNumber, IsInRange}

-- the kind of a number of a kind
pub its_kind : (kind : Kind) (n : Num) → IsNumber kind n → kind_of n ≡ kind
its_kind IntKind (Int z) h = refl
its_kind UintKind (Uint n) h = refl
its_kind IntKind (Uint n) h = absurd h
its_kind UintKind (Int z) h = absurd h

abbrev int_if : Bool → Bool → ℤ → Result ℤ ArithRefusal
int_if a b z = if a then Err Overflow else if b then Err Underflow else Ok z

int_fits : (z : ℤ) (a b : Bool) → int_lt (pos (2 ^ 127 - 1)) z ≡ a → int_lt z (negsuc (2 ^ 127 - 1)) ≡ b → IsInRange IntKind (int_number (int_if a b z))
int_fits z true b h k = tt
int_fits z false true h k = tt
int_fits (pos n) false false h k =
    let low : n ≤ 2 ^ 127 - 1 = ltb-false (2 ^ 127 - 1) n h in
    record { sfits = omega (arith, low) }
int_fits (negsuc n) false false h k =
    let low : n ≤ 2 ^ 127 - 1 = ltb-false (2 ^ 127 - 1) n k in
    record { sfits = omega (arith, low) }

uint_fits : (n : ℕ) (b : Bool) → nat_lt (2 ^ 128 - 1) n ≡ b → IsInRange UintKind (uint_number (if b then Err Overflow else Ok n))
uint_fits n true h = tt
uint_fits n false h =
    let low : n ≤ 2 ^ 128 - 1 = ltb-false (2 ^ 128 - 1) n h in
    omega (arith, low)

pub range_fits : (kind : Kind) (z : ℤ) → IsInRange kind (in_range kind z)
range_fits IntKind z = int_fits z (int_lt (pos (2 ^ 127 - 1)) z) (int_lt z (negsuc (2 ^ 127 - 1))) refl refl
range_fits UintKind (pos n) = uint_fits n (nat_lt (2 ^ 128 - 1) n) refl
range_fits UintKind (negsuc n) = tt

pub tested_fits : (kind : Kind) (r : Result ℤ ArithRefusal) → IsInRange kind (tested kind r)
tested_fits kind (Ok z) = range_fits kind z
tested_fits kind (Err why) = tt

pub bits_below : (z : ℤ) → FitsSigned w128 z → cast_unsigned w128 z < 2 ^ 128
bits_below (pos n) h = omega (arith, h)
bits_below (negsuc n) h = omega arith

pub xor_fits : (kind : Kind) (a b : Num) → IsNumber kind a → IsNumber kind b → IsNumber kind (exclusive_or a b)
xor_fits IntKind (Int x) (Int y) h k =
    let below : bit_xor (cast_unsigned w128 x) (cast_unsigned w128 y) < 2 ^ 128 = xor_lt 128 (cast_unsigned w128 x) (cast_unsigned w128 y) (bits_below x h) (bits_below y k) in
    sfits_to_z {w = w128} {n = bit_xor (cast_unsigned w128 x) (cast_unsigned w128 y)} (Fits-of_lt {w = w128} {n = bit_xor (cast_unsigned w128 x) (cast_unsigned w128 y)} below)
xor_fits UintKind (Uint m) (Uint n) h k = xor_lt 128 m n h k
xor_fits IntKind (Uint m) b h k = absurd h
xor_fits IntKind (Int x) (Uint n) h k = absurd k
xor_fits UintKind (Int x) b h k = absurd h
xor_fits UintKind (Uint m) (Int y) h k = absurd k
