-- The values that the arguments of a call spell.
use Rattle.std.specs.Prelude.{◌≡◌, ℕ, List, [], ◌∷◌, Result, Ok, Err}
use Rattle.cl_values.specs.Tree.{Tree}
use Rattle.cl_text.specs.Parsed.{Reading, Stands, Broken, NotALiteral, TooDeep, TooLarge, Parses}

-- values, or what becomes of the first word that is no value
abbrev pub Arguments : Type 0
Arguments = Result (List Tree) Reading

-- a value before others
abbrev pub before : Tree → Arguments → Arguments
before v (Ok vs) = Ok (v ∷ vs)
before v (Err o) = Err o

-- the arguments from a word on, by what becomes of that word and what the words behind it give
abbrev pub from_word : Reading → (Arguments → Type 0) → Arguments → Type 0
from_word (Stands v) Behind args = (rest : Arguments) × Behind rest × (args ≡ before v rest)
from_word (Broken b) Behind args = args ≡ Err (Broken b)
from_word (NotALiteral span) Behind args = args ≡ Err (NotALiteral span)
from_word (TooDeep span) Behind args = args ≡ Err (TooDeep span)
from_word (TooLarge span) Behind args = args ≡ Err (TooLarge span)

-- these are the arguments that the words spell
abbrev pub Spell : List (List ℕ) → Arguments → Type 0
Spell [] args = args ≡ Ok []
Spell (word ∷ words) args = (outcome : Reading) × Parses word outcome × from_word outcome (Spell words) args
