-- How costs print.
use Rattle.std.specs.Prelude.{ℕ, List, [], ◌∷◌, ◌++◌, Option, Some, None, codes, decimal}
use Rattle.cl_types.specs.Types.{PlainType}
use Rattle.cl_shapes.specs.declared.cost.Cost5.{Cost5}
use Rattle.cl_text.specs.PrintedTypes.{printed_type}
use Rattle.cl_tx.specs.declared.outcome.Bounds.{Bounds}

-- five numbers, in the order of the dimensions
unfoldable pub cost_text : Cost5 → List ℕ
cost_text cost =
    decimal cost.runtime
    ++ (codes " " ++ (decimal cost.read_count ++ (codes " " ++ (decimal cost.read_length ++ (codes " " ++ (decimal cost.write_count ++ (codes " " ++ decimal cost.write_length)))))))

-- the line of the cost of an entry, where it has one
abbrev pub cost_line : Option Cost5 → List ℕ
cost_line None = []
cost_line (Some cost) = codes "  cost " ++ (cost_text cost ++ codes "\n")

-- the line of the bound of a deployment
abbrev pub deployment_line : Cost5 → List ℕ
deployment_line bound = codes "  deploy-bound " ++ (cost_text bound ++ codes "\n")

-- a bound and the type that its function returns, each behind a space
unfoldable pub bound_text : Cost5 → PlainType → List ℕ
bound_text bound type = codes " " ++ (cost_text bound ++ (codes " " ++ printed_type type))

-- the line of a function with its bound and its return type
unfoldable pub bound_line : List ℕ → Cost5 → PlainType → List ℕ
bound_line name bound type = codes "  bound " ++ (name ++ (bound_text bound type ++ codes "\n"))

-- a line for each function
abbrev pub bound_lines : List (List ℕ × Cost5) → List PlainType → List ℕ
bound_lines (f ∷ fs) (t ∷ ts) = bound_line f.0 f.1 t ++ bound_lines fs ts
bound_lines fs ts = []

-- the bounds of an accepted contract: of its deployment, and of each function in the order of its text
abbrev pub bounds_lines : Option Bounds → List PlainType → List ℕ
bounds_lines None types = []
bounds_lines (Some bounds) types = deployment_line bounds.deploy ++ bound_lines bounds.functions types
