-- The deployed contracts and the bounds of their functions.
use Rattle.std.specs.Prelude.{◌≡◌, ℕ, ◌<◌, List, [], Option, Some, None}
use Rattle.cl_shapes.specs.declared.function.CostFn.{CostFn}
use Rattle.cl_costs.specs.Schedules.{ScheduleSeen}
use Rattle.cl_costs.specs.Tables.{function_of}
use Rattle.cl_shapes.specs.declared.cost.Dimension.{Dimension}
use Rattle.cl_sexpr.specs.declared.rule.Rule.TheVariants.{BoundTooLarge}
use Rattle.cl_sexpr.specs.declared.rule.Refusal.{Refusal}
use Rattle.cl_rules.specs.Context.{Known}
use Rattle.cl_rules.specs.FormRules.{Defined}
use Rattle.cl_rules.specs.Acceptance.{Bounded}
use Rattle.cl_rules.specs.Laws.{IsFirstAboveLimit}
use Rattle.cl_meaning.specs.Limits.{Costs}
use Rattle.cl_contracts.specs.declared.checked.Checked.{Checked}
use Rattle.cl_contracts.specs.declared.deployed.Deployed.{Deployed}
use Rattle.cl_contracts.specs.Seen.{deployed_seen, forms_of}
use Rattle.cl_contracts.specs.Standings.{AreStanding, StandsAfter}
use Rattle.cl_tx.specs.declared.outcome.Bounds.{Bounds}
use Rattle.cl_tx.specs.declared.outcome.Rebound.{Rebound}
use Rattle.cl_tx.specs.Nodes.{NodeSeen}
use Rattle.cl_tx.specs.Rebounds.{rebounds_at}
use Rattle.cl_tx.specs.Step.{told_of}
use Rattle.cl_bound.specs.declared.bounds.Priced.{Priced}
use Rattle.cl_bound.specs.declared.known.KnownBounds.{KnownBounds}
use Rattle.cl_bound.specs.Known.{AreBounds, AreBoundsOf, HasRoom as HasRoomFor}
use Rattle.cl_nodes.specs.declared.contracts.Contracts.{Contracts as ContractsOfCode}
use Rattle.cl_nodes.specs.Sound.{Contracts}

-- the deployed contracts with their principals
abbrev pub entries_of : ContractsOfCode → Contracts
entries_of c = c.deployed.contracts

-- the costs under which the bounds are
abbrev pub costs_of : ContractsOfCode → Costs
costs_of c = function_of c.table

-- one contract more can be added without memory
pub record HasRoom (c : ContractsOfCode) : Type 0 where
  pub deployed : 0 < c.deployed.room
  pub bounds : HasRoomFor c.bounds

-- these are the bounds of the functions of contracts under these costs
pub record AreBounded (costs : Costs) (deployed : Deployed) (bounds : KnownBounds) : Type 0 where
  pub bounds_are : AreBounds costs deployed.contracts bounds

-- the same of contracts with their bounds
abbrev pub IsWhole : ContractsOfCode → Type 0
IsWhole c = AreBounded (costs_of c) c.deployed c.bounds

-- the same of the bounds under a table that are handed out where the kept ones are under another
abbrev pub AreUnder : ContractsOfCode → List CostFn → Option KnownBounds → Type 0
AreUnder c table None = c.table ≡ table
AreUnder c table (Some bounds) = AreBounded (function_of table) c.deployed bounds

-- what a block at the second height has, at a node of the first height with these contracts
abbrev pub AreLinesAt : ContractsOfCode → ScheduleSeen → ℕ → ℕ → List Rebound → Type 0
AreLinesAt c schedule from to lines =
    (node : NodeSeen) → node.contracts ≡ deployed_seen c.deployed → AreStanding [] (entries_of c) node.known → node.height ≡ from → lines ≡ rebounds_at schedule node to

-- ---- one contract more

-- the bounds of a contract that comes after these contracts are within the limit, and these
pub record IsBounded (costs : Costs) (contracts : Contracts) (c : Checked) (bounds : Bounds) : Type 0 where
  pub found : (known : List Known) → AreStanding [] contracts known → (defined : Defined) → StandsAfter known c defined → Bounded defined (forms_of c) costs × ((told_of costs defined (forms_of c)).bounds ≡ Some bounds)

-- and these are they as they are kept for callers
pub record IsPriced (cs : ContractsOfCode) (c : Checked) (priced : Priced) : Type 0 where
  pub bounded : IsBounded (costs_of cs) (entries_of cs) c priced.bounds
  pub kept : AreBoundsOf (costs_of cs) (entries_of cs) c priced.contract

-- a bound is above the limit, and this refusal has the first one
pub record IsTooDear (cs : ContractsOfCode) (c : Checked) (refusal : Refusal) : Type 0 where
  pub dimension : Dimension
  pub rule : refusal.rule ≡ BoundTooLarge dimension
  pub names : refusal.names.items ≡ []
  pub first : (known : List Known) → AreStanding [] (entries_of cs) known → (defined : Defined) → StandsAfter known c defined → IsFirstAboveLimit defined (forms_of c) c.order.items (costs_of cs) dimension refusal.span
