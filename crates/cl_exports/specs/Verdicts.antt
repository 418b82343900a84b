-- What comes of a source before it is deployed, in numbers.
use Rattle.std.specs.Prelude.{ℕ, ◌^◌, ◌-◌, min, List, [], ◌∷◌, ◌++◌, codes}
use Rattle.std.specs.List.{flat_map}
use Rattle.cl_shapes.specs.declared.cost.Cost5.{Cost5}
use Rattle.cl_shapes.specs.Costs.{dimension_name}
use Rattle.cl_sexpr.specs.declared.rule.Rule.{Rule}
use Rattle.cl_sexpr.specs.declared.rule.Rule.TheVariants.{BoundTooLarge}
use Rattle.cl_sexpr.specs.Rules.{rule_text}
use Rattle.cl_tx.specs.declared.outcome.Bounds.{Bounds}
use Rattle.cl_tx.specs.Seen.{SourceBreak}
use Rattle.cl_exports.specs.declared.verdict.Verdict.{Verdict}
use Rattle.cl_exports.specs.declared.verdict.Verdict.TheVariants.{Accepted, Refused}

-- a number as a limit, which is below 2^64
abbrev pub at_most : ℕ → ℕ
at_most n = min n (2 ^ 64 - 1)

abbrev pub cost_numbers : Cost5 → List ℕ
cost_numbers c = at_most c.runtime ∷ at_most c.read_count ∷ at_most c.read_length ∷ at_most c.write_count ∷ at_most c.write_length ∷ []

abbrev pub function_numbers : List ℕ × Cost5 → List ℕ
function_numbers f = cost_numbers f.1

-- five numbers of the deployment, and five of each function
abbrev pub bounds_numbers : Bounds → List ℕ
bounds_numbers bounds = cost_numbers bounds.deploy ++ flat_map function_numbers bounds.functions

-- the bounds, or the place of the rule that is broken
abbrev pub verdict_numbers : Verdict → List ℕ
verdict_numbers (Accepted bounds) = bounds_numbers bounds
verdict_numbers (Refused broken) = broken.span.start ∷ broken.span.end ∷ []

abbrev pub line : List ℕ → List ℕ
line bytes = bytes ++ codes "\n"

abbrev pub function_line : List ℕ × Cost5 → List ℕ
function_line f = line f.0

-- the dimension of a bound that is too large
abbrev pub dimension_line : Rule → List ℕ
dimension_line (BoundTooLarge d) = line (dimension_name d)
dimension_line r = []

-- a broken rule, and behind it the names of a cycle, or the dimension of a bound
abbrev pub refusal_lines : SourceBreak → List ℕ
refusal_lines broken = line (rule_text broken.rule) ++ (flat_map line broken.names ++ dimension_line broken.rule)

-- the names of the functions, or the rule that is broken
abbrev pub verdict_text : Verdict → List ℕ
verdict_text (Accepted bounds) = flat_map function_line bounds.functions
verdict_text (Refused broken) = refusal_lines broken
