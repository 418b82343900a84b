-- Functions that give so many bytes.
use Rattle.std.specs.Prelude.{◌≡◌, ◌<◌, ℕ, List, length}
use Rattle.std.specs.List.{All}

abbrev pub AreBytes : List ℕ → Type 0
AreBytes bytes = All (λ b. b < 256) bytes

-- a hash gives so many bytes
pub record IsHash (hash : List ℕ → List ℕ) (n : ℕ) : Type 0 where
  pub bytes : (m : List ℕ) → AreBytes (hash m)
  pub long : (m : List ℕ) → length (hash m) ≡ n
