-- Sums of costs: zero on either side, and three in either order of adding.
use Rattle.std.proofs.Common.{◌≡◌, ◌+◌, arith}
use Rattle.cl_shapes.specs.declared.cost.Cost5.{Cost5}
use Rattle.cl_shapes.specs.Costs.{cost5, zero_cost, plus}

pub plus_assoc : (a b c : Cost5) → plus (plus a b) c ≡ plus a (plus b c)
plus_assoc a b c =
    let r : a.runtime + b.runtime + c.runtime ≡ a.runtime + (b.runtime + c.runtime) = omega arith in
    let rc : a.read_count + b.read_count + c.read_count ≡ a.read_count + (b.read_count + c.read_count) = omega arith in
    let rl : a.read_length + b.read_length + c.read_length ≡ a.read_length + (b.read_length + c.read_length) = omega arith in
    let wc : a.write_count + b.write_count + c.write_count ≡ a.write_count + (b.write_count + c.write_count) = omega arith in
    let wl : a.write_length + b.write_length + c.write_length ≡ a.write_length + (b.write_length + c.write_length) = omega arith in
    λ i. cost5 (r i) (rc i) (rl i) (wc i) (wl i)

pub plus_zero : (a : Cost5) → plus a zero_cost ≡ a
plus_zero a =
    let r : a.runtime + 0 ≡ a.runtime = omega arith in
    let rc : a.read_count + 0 ≡ a.read_count = omega arith in
    let rl : a.read_length + 0 ≡ a.read_length = omega arith in
    let wc : a.write_count + 0 ≡ a.write_count = omega arith in
    let wl : a.write_length + 0 ≡ a.write_length = omega arith in
    λ i. cost5 (r i) (rc i) (rl i) (wc i) (wl i)

pub zero_plus : (a : Cost5) → plus zero_cost a ≡ a
zero_plus a =
    let r : 0 + a.runtime ≡ a.runtime = omega arith in
    let rc : 0 + a.read_count ≡ a.read_count = omega arith in
    let rl : 0 + a.read_length ≡ a.read_length = omega arith in
    let wc : 0 + a.write_count ≡ a.write_count = omega arith in
    let wl : 0 + a.write_length ≡ a.write_length = omega arith in
    λ i. cost5 (r i) (rc i) (rl i) (wc i) (wl i)
