-- One entry of a tuple.
use Rattle.std.specs.Prelude.{ℕ, List, Option, Ok}
use Rattle.cl_values.specs.Tree.{Tree}
use Rattle.cl_values.specs.Reading.{Read, and_then, read_key}

-- a key above the last one, and the value behind it
abbrev pub read_entry : (List ℕ → Read Tree) → ℕ → Option (List ℕ) → List ℕ → Read (List ℕ × Tree)
read_entry read total last bytes =
    and_then (read_key total last bytes) (λ k behind. and_then (read behind) (λ v rest. Ok ((k, v), rest)))
