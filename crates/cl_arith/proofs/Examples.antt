-- The definitions compute: each operation at the edges of ints and uints, and between them.
use Rattle.std.proofs.Common.{◌≡◌, ◌-◌, ◌^◌, [], ◌∷◌, refl}
use Rattle.std.specs.Prelude.{ℕ, ℤ, pos, negsuc, List, map, Result, Ok, Err}
use Rattle.cl_arith.specs.Numbers.{Num, Int, Uint, ArithRefusal, Overflow, Underflow, DivideByZero, NegativeArgument, kind_of, whole, as_int, as_uint}
use Rattle.cl_arith.specs.Operations.{Operation, sum, difference, product, quotient, remainder, power, tested, computed, exclusive_or}
use Rattle.cl_arith.specs.Bits.{conjunction, disjunction, complement, shifted_left, shifted_right}
use Rattle.cl_arith.specs.Roots.{greatest_from, square_root, log2, root_of, log2_of}

abbrev least : ℤ
least = negsuc (2 ^ 127 - 1)

abbrev greatest : ℤ
greatest = pos (2 ^ 127 - 1)

-- the answers
abbrev int : ℤ → Result Num ArithRefusal
int x = Ok (Int x)

abbrev uint : ℕ → Result Num ArithRefusal
uint n = Ok (Uint n)

abbrev over : Result Num ArithRefusal
over = Err Overflow

abbrev under : Result Num ArithRefusal
under = Err Underflow

abbrev by_zero : Result Num ArithRefusal
by_zero = Err DivideByZero

abbrev negative : Result Num ArithRefusal
negative = Err NegativeArgument

abbrev int_edges : List ℤ
int_edges = least ∷ negsuc 0 ∷ pos 0 ∷ pos 1 ∷ greatest ∷ []

abbrev uint_edges : List ℕ
uint_edges = 0 ∷ 1 ∷ (2 ^ 128 - 1) ∷ []

-- a power is computed factor by factor, so the greatest exponent is left to the law of powers
abbrev int_exponents : List ℤ
int_exponents = least ∷ negsuc 0 ∷ pos 0 ∷ pos 1 ∷ []

abbrev uint_exponents : List ℕ
uint_exponents = 0 ∷ 1 ∷ []

-- a row for each of the edges, with an answer for each second number
abbrev int_rows : Operation → List ℤ → List (List (Result Num ArithRefusal))
int_rows operation ys = map (λ x. map (λ y. computed operation (Int x) (Int y)) ys) int_edges

abbrev uint_rows : Operation → List ℕ → List (List (Result Num ArithRefusal))
uint_rows operation ns = map (λ m. map (λ n. computed operation (Uint m) (Uint n)) ns) uint_edges

abbrev bits_of_ints : List (List (Result Num ArithRefusal))
bits_of_ints = map (λ x. map (λ y. Ok (exclusive_or (Int x) (Int y))) int_edges) int_edges

abbrev bits_of_uints : List (List (Result Num ArithRefusal))
bits_of_uints = map (λ m. map (λ n. Ok (exclusive_or (Uint m) (Uint n))) uint_edges) uint_edges

sums_of_ints : int_rows sum int_edges ≡
    (under ∷ under ∷ int least ∷ int (negsuc (2 ^ 127 - 2)) ∷ int (negsuc 0) ∷ [])
    ∷ (under ∷ int (negsuc 1) ∷ int (negsuc 0) ∷ int (pos 0) ∷ int (pos (2 ^ 127 - 2)) ∷ [])
    ∷ (int least ∷ int (negsuc 0) ∷ int (pos 0) ∷ int (pos 1) ∷ int greatest ∷ [])
    ∷ (int (negsuc (2 ^ 127 - 2)) ∷ int (pos 0) ∷ int (pos 1) ∷ int (pos 2) ∷ over ∷ [])
    ∷ (int (negsuc 0) ∷ int (pos (2 ^ 127 - 2)) ∷ int greatest ∷ over ∷ over ∷ [])
    ∷ []
sums_of_ints = refl

differences_of_ints : int_rows difference int_edges ≡
    (int (pos 0) ∷ int (negsuc (2 ^ 127 - 2)) ∷ int least ∷ under ∷ under ∷ [])
    ∷ (int greatest ∷ int (pos 0) ∷ int (negsuc 0) ∷ int (negsuc 1) ∷ int least ∷ [])
    ∷ (over ∷ int (pos 1) ∷ int (pos 0) ∷ int (negsuc 0) ∷ int (negsuc (2 ^ 127 - 2)) ∷ [])
    ∷ (over ∷ int (pos 2) ∷ int (pos 1) ∷ int (pos 0) ∷ int (negsuc (2 ^ 127 - 3)) ∷ [])
    ∷ (over ∷ over ∷ int greatest ∷ int (pos (2 ^ 127 - 2)) ∷ int (pos 0) ∷ [])
    ∷ []
differences_of_ints = refl

products_of_ints : int_rows product int_edges ≡
    (over ∷ over ∷ int (pos 0) ∷ int least ∷ under ∷ [])
    ∷ (over ∷ int (pos 1) ∷ int (pos 0) ∷ int (negsuc 0) ∷ int (negsuc (2 ^ 127 - 2)) ∷ [])
    ∷ (int (pos 0) ∷ int (pos 0) ∷ int (pos 0) ∷ int (pos 0) ∷ int (pos 0) ∷ [])
    ∷ (int least ∷ int (negsuc 0) ∷ int (pos 0) ∷ int (pos 1) ∷ int greatest ∷ [])
    ∷ (under ∷ int (negsuc (2 ^ 127 - 2)) ∷ int (pos 0) ∷ int greatest ∷ over ∷ [])
    ∷ []
products_of_ints = refl

quotients_of_ints : int_rows quotient int_edges ≡
    (int (pos 1) ∷ over ∷ by_zero ∷ int least ∷ int (negsuc 0) ∷ [])
    ∷ (int (pos 0) ∷ int (pos 1) ∷ by_zero ∷ int (negsuc 0) ∷ int (pos 0) ∷ [])
    ∷ (int (pos 0) ∷ int (pos 0) ∷ by_zero ∷ int (pos 0) ∷ int (pos 0) ∷ [])
    ∷ (int (pos 0) ∷ int (negsuc 0) ∷ by_zero ∷ int (pos 1) ∷ int (pos 0) ∷ [])
    ∷ (int (pos 0) ∷ int (negsuc (2 ^ 127 - 2)) ∷ by_zero ∷ int greatest ∷ int (pos 1) ∷ [])
    ∷ []
quotients_of_ints = refl

remainders_of_ints : int_rows remainder int_edges ≡
    (int (pos 0) ∷ int (pos 0) ∷ by_zero ∷ int (pos 0) ∷ int (negsuc 0) ∷ [])
    ∷ (int (negsuc 0) ∷ int (pos 0) ∷ by_zero ∷ int (pos 0) ∷ int (negsuc 0) ∷ [])
    ∷ (int (pos 0) ∷ int (pos 0) ∷ by_zero ∷ int (pos 0) ∷ int (pos 0) ∷ [])
    ∷ (int (pos 1) ∷ int (pos 0) ∷ by_zero ∷ int (pos 0) ∷ int (pos 1) ∷ [])
    ∷ (int greatest ∷ int (pos 0) ∷ by_zero ∷ int (pos 0) ∷ int (pos 0) ∷ [])
    ∷ []
remainders_of_ints = refl

powers_of_ints : int_rows power int_exponents ≡
    (negative ∷ negative ∷ int (pos 1) ∷ int least ∷ [])
    ∷ (negative ∷ negative ∷ int (pos 1) ∷ int (negsuc 0) ∷ [])
    ∷ (negative ∷ negative ∷ int (pos 1) ∷ int (pos 0) ∷ [])
    ∷ (negative ∷ negative ∷ int (pos 1) ∷ int (pos 1) ∷ [])
    ∷ (negative ∷ negative ∷ int (pos 1) ∷ int greatest ∷ [])
    ∷ []
powers_of_ints = refl

exclusive_ors_of_ints : bits_of_ints ≡
    (int (pos 0) ∷ int greatest ∷ int least ∷ int (negsuc (2 ^ 127 - 2)) ∷ int (negsuc 0) ∷ [])
    ∷ (int greatest ∷ int (pos 0) ∷ int (negsuc 0) ∷ int (negsuc 1) ∷ int least ∷ [])
    ∷ (int least ∷ int (negsuc 0) ∷ int (pos 0) ∷ int (pos 1) ∷ int greatest ∷ [])
    ∷ (int (negsuc (2 ^ 127 - 2)) ∷ int (negsuc 1) ∷ int (pos 1) ∷ int (pos 0) ∷ int (pos (2 ^ 127 - 2)) ∷ [])
    ∷ (int (negsuc 0) ∷ int least ∷ int greatest ∷ int (pos (2 ^ 127 - 2)) ∷ int (pos 0) ∷ [])
    ∷ []
exclusive_ors_of_ints = refl

sums_of_uints : uint_rows sum uint_edges ≡
    (uint 0 ∷ uint 1 ∷ uint (2 ^ 128 - 1) ∷ [])
    ∷ (uint 1 ∷ uint 2 ∷ over ∷ [])
    ∷ (uint (2 ^ 128 - 1) ∷ over ∷ over ∷ [])
    ∷ []
sums_of_uints = refl

differences_of_uints : uint_rows difference uint_edges ≡
    (uint 0 ∷ under ∷ under ∷ [])
    ∷ (uint 1 ∷ uint 0 ∷ under ∷ [])
    ∷ (uint (2 ^ 128 - 1) ∷ uint (2 ^ 128 - 2) ∷ uint 0 ∷ [])
    ∷ []
differences_of_uints = refl

products_of_uints : uint_rows product uint_edges ≡
    (uint 0 ∷ uint 0 ∷ uint 0 ∷ [])
    ∷ (uint 0 ∷ uint 1 ∷ uint (2 ^ 128 - 1) ∷ [])
    ∷ (uint 0 ∷ uint (2 ^ 128 - 1) ∷ over ∷ [])
    ∷ []
products_of_uints = refl

quotients_of_uints : uint_rows quotient uint_edges ≡
    (by_zero ∷ uint 0 ∷ uint 0 ∷ [])
    ∷ (by_zero ∷ uint 1 ∷ uint 0 ∷ [])
    ∷ (by_zero ∷ uint (2 ^ 128 - 1) ∷ uint 1 ∷ [])
    ∷ []
quotients_of_uints = refl

remainders_of_uints : uint_rows remainder uint_edges ≡
    (by_zero ∷ uint 0 ∷ uint 0 ∷ [])
    ∷ (by_zero ∷ uint 0 ∷ uint 1 ∷ [])
    ∷ (by_zero ∷ uint 0 ∷ uint 0 ∷ [])
    ∷ []
remainders_of_uints = refl

powers_of_uints : uint_rows power uint_exponents ≡
    (uint 1 ∷ uint 0 ∷ [])
    ∷ (uint 1 ∷ uint 1 ∷ [])
    ∷ (uint 1 ∷ uint (2 ^ 128 - 1) ∷ [])
    ∷ []
powers_of_uints = refl

exclusive_ors_of_uints : bits_of_uints ≡
    (uint 0 ∷ uint 1 ∷ uint (2 ^ 128 - 1) ∷ [])
    ∷ (uint 1 ∷ uint 0 ∷ uint (2 ^ 128 - 2) ∷ [])
    ∷ (uint (2 ^ 128 - 1) ∷ uint (2 ^ 128 - 2) ∷ uint 0 ∷ [])
    ∷ []
exclusive_ors_of_uints = refl

-- rounded toward zero, with what is left
abbrev divided : ℤ → ℤ → Result Num ArithRefusal × Result Num ArithRefusal
divided x y = (computed quotient (Int x) (Int y), computed remainder (Int x) (Int y))

quotients_and_remainders :
    divided (pos 7) (pos 2) ∷ divided (negsuc 6) (pos 2) ∷ divided (pos 7) (negsuc 1) ∷ divided (negsuc 6) (negsuc 1) ∷ divided (negsuc 5) (pos 4) ∷ []
    ≡ (int (pos 3), int (pos 1)) ∷ (int (negsuc 2), int (negsuc 0)) ∷ (int (negsuc 2), int (pos 1)) ∷ (int (pos 3), int (negsuc 0)) ∷ (int (negsuc 0), int (negsuc 1)) ∷ []
quotients_and_remainders = refl

more_powers_of_ints :
    computed power (Int (pos 2)) (Int (pos 126))
    ∷ computed power (Int (pos 2)) (Int (pos 127))
    ∷ computed power (Int (negsuc 1)) (Int (pos 127))
    ∷ computed power (Int (negsuc 1)) (Int (pos 128))
    ∷ computed power (Int (negsuc 1)) (Int (pos 129))
    ∷ computed power (Int (pos 3)) (Int (pos 80))
    ∷ computed power (Int (negsuc 2)) (Int (pos 80))
    ∷ computed power (Int (negsuc 2)) (Int (pos 81))
    ∷ computed power (Int (pos 10)) (Int (pos 38))
    ∷ computed power (Int (pos 10)) (Int (pos 39))
    ∷ computed power (Int (negsuc 6)) (Int (pos 3)) ∷ []
    ≡ int (pos 85070591730234615865843651857942052864) ∷ over ∷ int least ∷ over ∷ under ∷ int (pos 147808829414345923316083210206383297601) ∷ int (pos 147808829414345923316083210206383297601) ∷ under ∷ int (pos 100000000000000000000000000000000000000) ∷ over ∷ int (negsuc 342) ∷ []
more_powers_of_ints = refl

more_powers_of_uints :
    computed power (Uint 2) (Uint 127)
    ∷ computed power (Uint 2) (Uint 128)
    ∷ computed power (Uint 3) (Uint 80)
    ∷ computed power (Uint 3) (Uint 81)
    ∷ computed power (Uint 10) (Uint 38)
    ∷ computed power (Uint 10) (Uint 39)
    ∷ computed power (Uint 18446744073709551615) (Uint 2)
    ∷ computed power (Uint 18446744073709551616) (Uint 2)
    ∷ computed power (Uint 7) (Uint 3) ∷ []
    ≡ uint 170141183460469231731687303715884105728 ∷ over ∷ uint 147808829414345923316083210206383297601 ∷ over ∷ uint 100000000000000000000000000000000000000 ∷ over ∷ uint 340282366920938463426481119284349108225 ∷ over ∷ uint 343 ∷ []
more_powers_of_uints = refl

-- the square root of a number, and its logarithm
abbrev root_and_logarithm : Num → Result Num ArithRefusal × Result Num ArithRefusal
root_and_logarithm a = (tested (kind_of a) (root_of (whole a)), tested (kind_of a) (log2_of (whole a)))

roots_and_logarithms_of_uints : map (λ n. root_and_logarithm (Uint n)) (0 ∷ 1 ∷ 2 ∷ 3 ∷ 4 ∷ 8 ∷ 18446744073709551615 ∷ 18446744073709551616 ∷ 340282366920938463426481119284349108224 ∷ 340282366920938463426481119284349108225 ∷ 170141183460469231731687303715884105727 ∷ 170141183460469231731687303715884105728 ∷ 340282366920938463463374607431768211455 ∷ []) ≡
    (uint 0, negative)
    ∷ (uint 1, uint 0)
    ∷ (uint 1, uint 1)
    ∷ (uint 1, uint 1)
    ∷ (uint 2, uint 2)
    ∷ (uint 2, uint 3)
    ∷ (uint 4294967295, uint 63)
    ∷ (uint 4294967296, uint 64)
    ∷ (uint 18446744073709551614, uint 127)
    ∷ (uint 18446744073709551615, uint 127)
    ∷ (uint 13043817825332782212, uint 126)
    ∷ (uint 13043817825332782212, uint 127)
    ∷ (uint 18446744073709551615, uint 127) ∷ []
unfolding square_root log2 greatest_from
roots_and_logarithms_of_uints = refl

roots_and_logarithms_of_ints : map (λ x. root_and_logarithm (Int x)) (greatest ∷ pos 0 ∷ negsuc 0 ∷ least ∷ []) ≡
    (int (pos 13043817825332782212), int (pos 126)) ∷ (int (pos 0), negative) ∷ (negative, negative) ∷ (negative, negative) ∷ []
unfolding square_root log2 greatest_from
roots_and_logarithms_of_ints = refl

uints_as_ints : map (λ n. as_int (pos n)) (0 ∷ (2 ^ 127 - 1) ∷ (2 ^ 127) ∷ (2 ^ 128 - 1) ∷ []) ≡ Ok (pos 0) ∷ Ok greatest ∷ Err Overflow ∷ Err Overflow ∷ []
uints_as_ints = refl

ints_as_uints : map as_uint (pos 0 ∷ greatest ∷ negsuc 0 ∷ least ∷ []) ≡ Ok 0 ∷ Ok (2 ^ 127 - 1) ∷ Err Underflow ∷ Err Underflow ∷ []
ints_as_uints = refl

bits_of_minus_one : exclusive_or (Int (negsuc 0)) (Int (pos 5)) ≡ Int (negsuc 5)
bits_of_minus_one = refl

bits_of_small_numbers :
    conjunction (Int (pos 12)) (Int (pos 10)) ∷ disjunction (Int (pos 12)) (Int (pos 10)) ∷ exclusive_or (Int (pos 12)) (Int (pos 10))
    ∷ complement (Int (pos 0)) ∷ shifted_left (Int (pos 1)) 130 ∷ shifted_right (Int (negsuc 63)) 1 ∷ []
    ≡ Int (pos 8) ∷ Int (pos 14) ∷ Int (pos 6) ∷ Int (negsuc 0) ∷ Int (pos 4) ∷ Int (negsuc 31) ∷ []
bits_of_small_numbers = refl

shifts_of_ints :
    map (λ n. shifted_left (Int (negsuc 0)) n) (0 ∷ 1 ∷ 127 ∷ 128 ∷ (2 ^ 128 - 1) ∷ []) ∷ map (λ n. shifted_right (Int least) n) (0 ∷ 1 ∷ 127 ∷ 128 ∷ (2 ^ 128 - 1) ∷ [])
    ∷ map (λ n. shifted_left (Int (pos 1)) n) (126 ∷ 127 ∷ []) ∷ map (λ n. shifted_right (Int greatest) n) (126 ∷ 127 ∷ []) ∷ []
    ≡ (Int (negsuc 0) ∷ Int (negsuc 1) ∷ Int least ∷ Int (negsuc 0) ∷ Int least ∷ [])
    ∷ (Int least ∷ Int (negsuc (2 ^ 126 - 1)) ∷ Int (negsuc 0) ∷ Int least ∷ Int (negsuc 0) ∷ [])
    ∷ (Int (pos (2 ^ 126)) ∷ Int least ∷ []) ∷ (Int (pos 1) ∷ Int (pos 0) ∷ []) ∷ []
shifts_of_ints = refl

shifts_of_uints :
    map (λ n. shifted_left (Uint (2 ^ 128 - 1)) n) (0 ∷ 1 ∷ 127 ∷ 128 ∷ []) ∷ map (λ n. shifted_right (Uint (2 ^ 128 - 1)) n) (0 ∷ 1 ∷ 127 ∷ 128 ∷ []) ∷ []
    ≡ (Uint (2 ^ 128 - 1) ∷ Uint (2 ^ 128 - 2) ∷ Uint (2 ^ 127) ∷ Uint (2 ^ 128 - 1) ∷ []) ∷ (Uint (2 ^ 128 - 1) ∷ Uint (2 ^ 127 - 1) ∷ Uint 1 ∷ Uint (2 ^ 128 - 1) ∷ []) ∷ []
shifts_of_uints = refl

other_bits : map complement (Int least ∷ Int greatest ∷ Uint 0 ∷ Uint (2 ^ 128 - 1) ∷ []) ≡ Int greatest ∷ Int least ∷ Uint (2 ^ 128 - 1) ∷ Uint 0 ∷ []
other_bits = refl

bits_of_both_signs : conjunction (Int (negsuc 0)) (Int least) ∷ disjunction (Int greatest) (Int least) ∷ conjunction (Uint 6) (Uint 3) ∷ disjunction (Uint 6) (Uint 3) ∷ [] ≡ Int least ∷ Int (negsuc 0) ∷ Uint 2 ∷ Uint 7 ∷ []
bits_of_both_signs = refl
