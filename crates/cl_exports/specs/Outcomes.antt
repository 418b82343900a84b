-- The numbers of outcomes.
use Rattle.std.specs.Prelude.{ℕ}
use Rattle.cl_exports.specs.declared.outcome.Outcome.{Outcome}
use Rattle.cl_exports.specs.declared.outcome.Outcome.TheVariants.{Done, BadFile, Refused, NoMemory, NoRequest, Falls, HasHolders}

abbrev pub number_of : Outcome → ℕ
number_of Done = 0
number_of BadFile = 5
number_of Refused = 6
number_of NoMemory = 9
number_of NoRequest = 10
number_of Falls = 12
number_of HasHolders = 13
