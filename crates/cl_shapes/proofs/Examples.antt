-- The definitions compute: shapes at their edges, sums and products of costs, what is spent of a limit, the unit table.
use Rattle.std.proofs.Common.{◌≡◌, ◌-◌, ◌^◌, [], ◌∷◌, refl}
use Rattle.std.specs.Prelude.{ℕ, List, map, codes, Result, Ok, Err}
use Rattle.cl_shapes.specs.Costs.{Cost5, cost5, Dimension, Runtime, ReadCount, ReadLength, WriteCount, WriteLength, dimensions, dimension_name, zero_cost, plus, times, greater, counted, in_each}
use Rattle.cl_shapes.specs.Functions.{halvings, log2, Constant, Linear, Logn, Nlogn, shape_at, cost_at}
use Rattle.cl_shapes.specs.Limits.{Purse, Over, limit_of, full, spend}
use Rattle.cl_shapes.specs.Names.{cost_names, cost_name, unit_function}

-- a constant, and then a straight line, its logarithm and the product of both, by these coefficients
abbrev shapes_at : ℕ → ℕ → ℕ → List ℕ
shapes_at a b n = shape_at (Constant b) n ∷ shape_at (Linear a b) n ∷ shape_at (Logn a b) n ∷ shape_at (Nlogn a b) n ∷ []

abbrev places : List ℕ
places = 0 ∷ 1 ∷ 2 ∷ 3 ∷ 4294967296 ∷ (2 ^ 40 - 1) ∷ []

shapes : map (shapes_at 3 7) places ≡
    (7 ∷ 7 ∷ 7 ∷ 7 ∷ [])
    ∷ (7 ∷ 10 ∷ 7 ∷ 7 ∷ [])
    ∷ (7 ∷ 13 ∷ 10 ∷ 13 ∷ [])
    ∷ (7 ∷ 16 ∷ 10 ∷ 16 ∷ [])
    ∷ (7 ∷ 12884901895 ∷ 103 ∷ 412316860423 ∷ [])
    ∷ (7 ∷ 3298534883332 ∷ 124 ∷ 128642860449682 ∷ [])
    ∷ []
unfolding log2 halvings
shapes = refl

steepest_shapes : map (shapes_at 4294967295 4294967295) places ≡
    (4294967295 ∷ 4294967295 ∷ 4294967295 ∷ 4294967295 ∷ [])
    ∷ (4294967295 ∷ 8589934590 ∷ 4294967295 ∷ 4294967295 ∷ [])
    ∷ (4294967295 ∷ 12884901885 ∷ 8589934590 ∷ 12884901885 ∷ [])
    ∷ (4294967295 ∷ 17179869180 ∷ 8589934590 ∷ 17179869180 ∷ [])
    ∷ (4294967295 ∷ 18446744073709551615 ∷ 141733920735 ∷ 590295810225561665535 ∷ [])
    ∷ (4294967295 ∷ 4722366481770133585920 ∷ 171798691800 ∷ 184172292788872001093670 ∷ [])
    ∷ []
unfolding log2 halvings
steepest_shapes = refl

-- each dimension by its own shape
function_of_five : cost_at (record { runtime = Constant 7; read_count = Linear 3 7; read_length = Logn 3 7; write_count = Nlogn 3 7; write_length = Constant 0 }) 3 ≡ cost5 7 16 10 16 0
unfolding log2 halvings
function_of_five = refl

abbrev top : ℕ
top = 2 ^ 128 - 1

sums :
    counted (plus (cost5 1 2 3 4 5) (cost5 10 20 30 40 50))
    ∷ counted (plus (cost5 (top - 1) 0 top 0 top) (cost5 1 top 0 top 0))
    ∷ counted (plus (cost5 top top 0 0 0) (cost5 1 1 0 0 0))
    ∷ counted (plus (cost5 0 top top 0 0) (cost5 0 1 1 0 0))
    ∷ counted (plus (cost5 0 0 1 top 0) (cost5 0 0 top 1 0))
    ∷ counted (plus (cost5 0 0 0 top 1) (cost5 0 0 0 top top))
    ∷ counted (plus (cost5 top 0 0 0 2) (cost5 0 0 0 0 (top - 1)))
    ∷ []
    ≡ Ok (cost5 11 22 33 44 55) ∷ Ok (in_each top) ∷ Err Runtime ∷ Err ReadCount ∷ Err ReadLength ∷ Err WriteCount ∷ Err WriteLength ∷ []
sums = refl

-- 2^64 + 1 times 2^64 - 1 is 2^128 - 1
products :
    counted (times (cost5 1 2 3 4 top) 0)
    ∷ counted (times (cost5 1 2 3 4 top) 1)
    ∷ counted (times (cost5 18446744073709551617 0 0 1 0) (2 ^ 64 - 1))
    ∷ counted (times (cost5 0 18446744073709551618 top 0 0) (2 ^ 64 - 1))
    ∷ counted (times (cost5 0 0 0 0 (2 ^ 127)) 2)
    ∷ []
    ≡ Ok zero_cost ∷ Ok (cost5 1 2 3 4 top) ∷ Ok (cost5 top 0 0 18446744073709551615 0) ∷ Err ReadCount ∷ Err WriteLength ∷ []
products = refl

greater_of_two : greater (cost5 9 0 top 0 5) (cost5 1 2 0 0 6) ≡ cost5 9 2 top 0 6
greater_of_two = refl

-- a limit of which a part is spent
abbrev purse : Cost5 → Purse
purse spent = record { limit = limit_of (10 ∷ 2 ∷ 34 ∷ 1 ∷ (2 ^ 64 - 1) ∷ []); spent = spent }

-- the sum that is above it, with the first dimension in which it is
abbrev over : Dimension → Cost5 → ℕ → Result Purse Over
over d sum limit = Err (record { dimension = d; attempted = sum; limit = limit })

first_charge : spend (full (10 ∷ 2 ∷ 34 ∷ 1 ∷ (2 ^ 64 - 1) ∷ [])) (cost5 4 2 17 0 1) ≡ Ok (purse (cost5 4 2 17 0 1))
first_charge = refl

-- the second goes up to the limit in each dimension
further_charges : map (spend (purse (cost5 4 2 17 0 1))) (cost5 7 1 18 2 0 ∷ cost5 6 1 18 2 0 ∷ cost5 6 0 18 2 0 ∷ cost5 6 0 17 2 0 ∷ cost5 6 0 17 1 (2 ^ 64 - 1) ∷ cost5 6 0 17 1 (2 ^ 64 - 2) ∷ []) ≡
    over Runtime (cost5 11 3 35 2 1) 10
    ∷ over ReadCount (cost5 10 3 35 2 1) 2
    ∷ over ReadLength (cost5 10 2 35 2 1) 34
    ∷ over WriteCount (cost5 10 2 34 2 1) 1
    ∷ over WriteLength (cost5 10 2 34 1 (2 ^ 64)) (2 ^ 64 - 1)
    ∷ Ok (purse (cost5 10 2 34 1 (2 ^ 64 - 1)))
    ∷ []
further_charges = refl

dimensions_by_name : map dimension_name dimensions ≡ codes "runtime" ∷ codes "read_count" ∷ codes "read_length" ∷ codes "write_count" ∷ codes "write_length" ∷ []
dimensions_by_name = refl

abbrev plain : Cost5
plain = cost5 1 0 0 0 0

abbrev reads : Cost5
reads = cost5 1 1 17 0 0

abbrev writes : Cost5
writes = cost5 1 0 0 1 17

-- each name with what it charges for 17 bytes
unit_table : map {B = List ℕ × Cost5} (λ name. (cost_name name, cost_at (unit_function name) 17)) cost_names ≡
    (codes "literal", plain) ∷ (codes "lookup", plain) ∷ (codes "context", plain) ∷ (codes "control", plain) ∷ (codes "call", plain)
    ∷ (codes "bind", plain) ∷ (codes "arith", plain) ∷ (codes "compare", plain) ∷ (codes "hash", plain) ∷ (codes "wrap", plain)
    ∷ (codes "make", plain) ∷ (codes "take", plain) ∷ (codes "scan", plain) ∷ (codes "iterate", plain)
    ∷ (codes "read_var", reads) ∷ (codes "write_var", writes) ∷ (codes "read_map", reads) ∷ (codes "write_map", writes)
    ∷ (codes "read_token", reads) ∷ (codes "write_token", writes) ∷ (codes "event", plain) ∷ (codes "contract_call", reads)
    ∷ (codes "deploy", writes) ∷ (codes "define", writes) ∷ []
unit_table = refl
