-- The fields of tuples as the code has them.
use Rattle.std.specs.Prelude.{ℕ, List, [], ◌∷◌, if◌then◌else◌}
use Rattle.cl_types.specs.Types.{PlainType, fields}
use Rattle.cl_types.specs.Sized.{is_among}

-- the keys with the types in their places
abbrev pub paired : List (List ℕ) → List PlainType → List (List ℕ × PlainType)
paired (k ∷ ks) (t ∷ ts) = (k, t) ∷ paired ks ts
paired ks ts = []

-- the fields whose keys the others haven't
abbrev pub unlike : List (List ℕ × PlainType) → List (List ℕ × PlainType) → List (List ℕ × PlainType)
unlike others [] = []
unlike others (f ∷ fs) = if is_among f.0 (fields others) then unlike others fs else f ∷ unlike others fs
