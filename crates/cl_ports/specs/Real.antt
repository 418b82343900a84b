-- Standard output, as contracts see it.
use Rattle.std.specs.Prelude.{ℕ}

-- `StandardOutput`: the writer that it passes bytes on to, and how often that has failed
pub record OutputState (W : Type 0) : Type 0 where
  pub writer : W
  pub faults : ℕ
