-- Pieces of a run of bytes.
use Rattle.std.specs.Prelude.{◌-◌, ℕ, List, [], ◌∷◌, length, take, drop, Option, Some, None, nat_le, ◌&&◌, if◌then◌else◌}

-- the bytes from one place up to another
abbrev pub piece_of : List ℕ → ℕ → ℕ → Option (List ℕ)
piece_of bytes from to = if nat_le from to && nat_le to (length bytes) then Some (take (to - from) (drop from bytes)) else None

-- one before others, where there are both
abbrev pub before : {X : Type 0} → Option X → Option (List X) → Option (List X)
before None xs = None
before (Some x) None = None
before (Some x) (Some xs) = Some (x ∷ xs)

-- the pieces of the bytes by where each ends; the first begins at this place, each other where the one before it ends
abbrev pub pieces_of : List ℕ → ℕ → List ℕ → Option (List (List ℕ))
pieces_of bytes from [] = Some []
pieces_of bytes from (end ∷ ends) = before (piece_of bytes from end) (pieces_of bytes end ends)
