-- The lines of a contract that is checked.
use Rattle.std.specs.Prelude.{List, ℕ, ◌++◌, codes, Option}
use Rattle.cl_types.specs.Types.{PlainType}
use Rattle.cl_c32.specs.declared.principal.Principal.{Principal}
use Rattle.cl_text.specs.Printed.{principal_text}
use Rattle.cl_tx.specs.declared.outcome.Bounds.{Bounds}
use Rattle.cl_tx.specs.Seen.{SourceBreak}
use Rattle.cl_lines.specs.Costs.{bounds_lines}
use Rattle.cl_lines.specs.Refusals.{refusal_text}

-- an accepted contract: a line of its own, and behind it its bounds, with the types that its functions return
abbrev pub accepted_lines : Principal → Option Bounds → List PlainType → List ℕ
accepted_lines principal bounds types = codes "contract " ++ (principal_text principal ++ (codes "\n" ++ bounds_lines bounds types))

-- a contract whose source breaks a rule
abbrev pub refused_line : Principal → SourceBreak → List ℕ
refused_line principal broken = codes "contract " ++ (principal_text principal ++ (codes " refused " ++ (refusal_text broken ++ codes "\n")))
