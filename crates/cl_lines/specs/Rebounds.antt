-- The lines of bounds that a block changes.
use Rattle.std.specs.Prelude.{ℕ, List, ◌++◌, codes}
use Rattle.std.specs.List.{flat_map}
use Rattle.cl_types.specs.Types.{PlainType}
use Rattle.cl_shapes.specs.Costs.{dimension_name}
use Rattle.cl_tx.specs.declared.outcome.Reach.{Reach}
use Rattle.cl_tx.specs.declared.outcome.Reach.TheVariants.{Bound, Over}
use Rattle.cl_tx.specs.declared.outcome.Rebound.{Rebound}
use Rattle.cl_lines.specs.Costs.{bound_text}
use Rattle.cl_lines.specs.Events.{name_text, who_text}

-- a bound with the type that its function returns, or the first dimension in which it is above the limit
unfoldable pub reach_text : Reach → PlainType → List ℕ
reach_text (Bound cost) type = bound_text cost type
reach_text (Over dimension) type = codes " over " ++ dimension_name dimension

-- the line of a function of a deployed contract with its bound under the table that begins with a block
unfoldable pub rebound_line : Rebound → List ℕ
rebound_line r = codes "  rebound" ++ (who_text r.contract ++ (name_text r.name ++ (reach_text r.reach r.returns ++ codes "\n")))

-- a line for each function
abbrev pub rebound_lines : List Rebound → List ℕ
rebound_lines rebounds = flat_map rebound_line rebounds
