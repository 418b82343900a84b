-- Room for a number while its digits are read.
use Rattle.std.proofs.Common.{◌≡◌, ℕ, ◌+◌, ◌*◌, ◌^◌, ◌<◌, ◌≤◌, suc, arith}
use Rattle.std.proofs.Math.Nat.{pow-suc, pow-le-pow_right}

pub room : (n i digit : ℕ) → n < 256 ^ i → i < 16 → digit < 256 → n * 256 + digit < 2 ^ 128
room n i digit below short small =
    let step : 256 ^ suc i ≡ 256 ^ i * 256 = pow-suc 256 i in
    let some : 0 < 256 = omega arith in
    let within : suc i ≤ 16 = omega arith in
    let most : 256 ^ suc i ≤ 256 ^ 16 = pow-le-pow_right some within in
    omega arith
