-- The bounds of functions under a table, with those that are above the limit.
use Rattle.std.specs.Prelude.{◌≡◌, ℕ, List, [], slice_get, Option, Some, None, option_map, unwrap_or, filter_map}
use Rattle.cl_c32.specs.declared.principal.Principal.{Principal}
use Rattle.cl_shapes.specs.declared.cost.Dimension.{Dimension}
use Rattle.cl_code.specs.declared.definition.Definition.{Definition}
use Rattle.cl_code.specs.declared.definition.Definition.TheVariants.{Function}
use Rattle.cl_forms.specs.Forms.{Form}
use Rattle.cl_rules.specs.Acceptance.{bound_of}
use Rattle.cl_rules.specs.Bills.{Bill}
use Rattle.cl_rules.specs.Context.{CostTable, Known, Signature, signature_in}
use Rattle.cl_rules.specs.FormRules.{Defined}
use Rattle.cl_contracts.specs.declared.checked.Checked.{Checked}
use Rattle.cl_contracts.specs.declared.contract.Contract.{Contract}
use Rattle.cl_contracts.specs.Seen.{forms_of}
use Rattle.cl_contracts.specs.Standings.{AreStanding, StandsAfter}
use Rattle.cl_tx.specs.declared.outcome.Reach.{Reach}
use Rattle.cl_tx.specs.declared.outcome.Reach.TheVariants.{Over}
use Rattle.cl_tx.specs.Rebounds.{reach_under}

-- the bound of a function that stands in a list, under a table
abbrev pub reach_at : CostTable → Option Signature → Option Reach
reach_at table f = option_map (λ (g : Signature). reach_under table g.bound) f

-- the first dimension in which a bound is above the limit
abbrev pub over_of : Option Reach → Option Dimension
over_of (Some (Over dimension)) = Some dimension
over_of reach = None

-- a name with the bound of its function
abbrev pub named_reach : CostTable → List ℕ → Option Bill → Option (List ℕ × Reach)
named_reach table name bound = option_map (λ (b : Bill). (name, reach_under table b)) bound

-- the name of a form that is a function, with its bound
abbrev pub reach_line : CostTable → Defined → Form → Option (List ℕ × Reach)
reach_line table D form = named_reach table (unwrap_or form.name []) (bound_of D form)

-- the functions of a contract, in the order of its text, with their bounds under a table, where it stands behind these contracts
abbrev pub AreReachesOf : CostTable → List (Principal × Contract) → Checked → List (List ℕ × Reach) → Type 0
AreReachesOf table contracts c reaches =
    (known : List Known) (D : Defined) → AreStanding [] contracts known → StandsAfter known c D → reaches ≡ filter_map (reach_line table D) (forms_of c)

-- a definition that is a function returns what its callers see returned
abbrev pub ReturnsAs : List Signature → Definition → Type 0
ReturnsAs functions (Function f) = (g : Signature) → signature_in f.name functions ≡ Some g → g.returns ≡ f.returns
ReturnsAs functions d = Unit {0}

-- each function among the definitions does
abbrev pub AllReturnAs : List Signature → List Definition → Type 0
AllReturnAs functions ds = (n : ℕ) (d : Definition) → slice_get ds n ≡ Some d → ReturnsAs functions d
