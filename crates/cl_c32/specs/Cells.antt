-- Bytes kept in an array of a fixed size, with zeros behind them.
use Rattle.std.specs.Prelude.{◌≡◌, ℕ, ◌≤◌, ◌-◌, List, ◌++◌, length, take, drop, replicate}
use Rattle.std.proofs.Common.{take-append-drop, length-take-le}

-- the cells are the bytes and the zeros behind them
pub cells_again : (most : ℕ) (cells : List ℕ) (n : ℕ) → length cells ≡ most → n ≤ most → drop n cells ≡ replicate (most - n) 0 → take n cells ++ replicate (most - length (take n cells)) 0 ≡ cells
cells_again most cells n size within padding =
    let fits : n ≤ length cells = rw size within in
    rw (length-take-le n cells fits, ← padding) (take-append-drop n cells)

pub length_again : (most : ℕ) (cells : List ℕ) (n : ℕ) → length cells ≡ most → n ≤ most → length (take n cells) ≡ n
length_again most cells n size within =
    let fits : n ≤ length cells = rw size within in
    length-take-le n cells fits
