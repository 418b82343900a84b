-- The bounds of deployed functions under a table, and those that the result of a block has where the number of the epoch changes.
use Rattle.std.specs.Prelude.{ℕ, nat_eq, List, [], Option, Some, None, option_map, unwrap_or, filter_map, flat_map, if◌then◌else◌}
use Rattle.cl_c32.specs.declared.principal.Principal.{Principal}
use Rattle.cl_shapes.specs.declared.cost.Cost5.{Cost5}
use Rattle.cl_shapes.specs.declared.cost.Dimension.{Dimension}
use Rattle.cl_shapes.specs.Costs.{first_above}
use Rattle.cl_forms.specs.Forms.{Form, FormKind, FunctionForm}
use Rattle.cl_costs.specs.Schedules.{ScheduleSeen, epoch_at, costs_at}
use Rattle.cl_meaning.specs.Deployed.{Contract}
use Rattle.cl_meaning.specs.Limits.{Costs}
use Rattle.cl_rules.specs.Bills.{Bill, cost_under}
use Rattle.cl_rules.specs.Context.{Known, Signature, known_at, signature_in}
use Rattle.cl_rules.specs.Acceptance.{most_cost}
use Rattle.cl_tx.specs.declared.outcome.Reach.{Reach}
use Rattle.cl_tx.specs.declared.outcome.Reach.TheVariants.{Bound, Over}
use Rattle.cl_tx.specs.declared.outcome.Rebound.{Rebound}
use Rattle.cl_tx.specs.Nodes.{NodeSeen}

-- ---- one bound

abbrev pub reach_of : Cost5 → Option Dimension → Reach
reach_of cost None = Bound cost
reach_of cost (Some dimension) = Over dimension

-- what a bound is under a table: a cost, or the first dimension in which it is above the limit
abbrev pub reach_under : Costs → Bill → Reach
reach_under costs bound = reach_of (cost_under costs bound) (first_above most_cost (cost_under costs bound))

abbrev pub functions_of : Option Known → List Signature
functions_of None = []
functions_of (Some k) = k.functions

-- the functions of a contract as its callers see them; where there is no contract there are none
abbrev pub functions_at : Principal → List Known → List Signature
functions_at contract ks = functions_of (known_at contract ks)

abbrev pub above_by : Costs → Option Signature → Option Dimension
above_by costs None = None
above_by costs (Some f) = first_above most_cost (cost_under costs f.bound)

-- the first dimension in which the bound of a function is above the limit
abbrev pub first_over : Costs → List Known → Principal → List ℕ → Option Dimension
first_over costs ks contract function = above_by costs (signature_in function (functions_at contract ks))

-- ---- those of a node

abbrev pub line_of : Costs → Principal → List ℕ → Signature → Rebound
line_of costs contract name f = record { contract = contract; name = name; reach = reach_under costs f.bound; returns = f.returns }

abbrev pub line_by : Costs → Principal → List Signature → FormKind → List ℕ → Option Rebound
line_by costs contract functions (FunctionForm access params body) name = option_map (line_of costs contract name) (signature_in name functions)
line_by costs contract functions kind name = None

-- a form that is a function
abbrev pub rebound_line : Costs → Principal → List Signature → Form → Option Rebound
rebound_line costs contract functions form = line_by costs contract functions form.kind (unwrap_or form.name [])

-- the functions of a contract, in the order of its text
abbrev pub rebounds_of : Costs → List Known → Contract → List Rebound
rebounds_of costs ks c = filter_map (rebound_line costs c.principal (functions_at c.principal ks)) c.forms

-- those of each deployed contract, in the order of the deployments
abbrev pub rebounds : Costs → NodeSeen → List Rebound
rebounds costs node = flat_map (rebounds_of costs node.known) node.contracts

-- The rebounds of a block at a height: where the number of the epoch is another than at the node's height, the bound of each
-- function under the table of the new height; else none.
unfoldable pub rebounds_at : ScheduleSeen → NodeSeen → ℕ → List Rebound
rebounds_at schedule node height = if nat_eq (epoch_at schedule node.height) (epoch_at schedule height) then [] else rebounds (costs_at schedule height) node
