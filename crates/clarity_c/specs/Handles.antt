-- What calls make of the node behind a handle.
use Rattle.std.specs.Prelude.{◌≡◌, ℕ, List, [], Option, Some, None}
use Rattle.cl_shapes.specs.declared.function.CostFn.{CostFn}
use Rattle.cl_session.specs.declared.session.Session.{Session}
use Rattle.cl_exports.specs.declared.outcome.Outcome.{Outcome}
use Rattle.cl_exports.specs.Files.{IsTable}
use Rattle.cl_exports.specs.Nodes.{HasNoTable, Opens, OpensNot}
use Rattle.cl_exports.specs.Outcomes.{number_of}

-- the call of this number ended so on an open handle, which stays open; on a closed one it did nothing, and its number is 11
abbrev pub EndsOn : (Outcome → Session → Session → Type 0) → ℕ → Option Session → Option Session → Type 0
EndsOn Ends number (Some before) (Some after) = (outcome : Outcome) × (number ≡ number_of outcome) × Ends outcome before after
EndsOn Ends number (Some before) None = ⊥
EndsOn Ends number None after = (number ≡ 11) × (after ≡ None)

-- a reading of this number left this behind the handle: the table with 0, and none with another
abbrev pub ReadingEnds : List ℕ → ℕ → Option (List CostFn) → Type 0
ReadingEnds file number (Some table) = (number ≡ 0) × IsTable file table
ReadingEnds file number None = (outcome : Outcome) × (number ≡ number_of outcome) × HasNoTable file outcome

-- an opening of this number under a table left this behind the handle: the node with 0, and none with another, 11 without a table
abbrev pub OpeningEnds : Option (List CostFn) → List ℕ → ℕ → Option Session → Type 0
OpeningEnds None file number after = (number ≡ 11) × (after ≡ None)
OpeningEnds (Some table) file number (Some after) = (number ≡ 0) × Opens table file after
OpeningEnds (Some table) file number None = (outcome : Outcome) × (number ≡ number_of outcome) × OpensNot file outcome

-- the text that the last call left
abbrev pub text_of : Option Session → List ℕ
text_of None = []
text_of (Some s) = s.text.items

-- the numbers that the last check left
abbrev pub numbers_of : Option Session → List ℕ
numbers_of None = []
numbers_of (Some s) = s.numbers.items
