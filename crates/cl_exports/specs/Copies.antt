-- Bytes that are handed out.
use Rattle.std.specs.Prelude.{◌≡◌, ◌<◌, ℕ, List, length, take}

-- there are more bytes than there was room for: these are the first of them, and this is how many there are
pub record IsCut (all out : List ℕ) (needed : ℕ) : Type 0 where
  pub many : needed ≡ length all
  pub short : length out < needed
  pub first : out ≡ take (length out) all
