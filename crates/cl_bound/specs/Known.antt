-- Bounds that are kept for those that call a contract.
use Rattle.std.specs.Prelude.{◌≡◌, ◌<◌, List, []}
use Rattle.indexmap.specs.IndexMap.{spare}
use Rattle.cl_c32.specs.declared.principal.Principal.{Principal}
use Rattle.cl_rules.specs.Context.{CostTable, Known}
use Rattle.cl_rules.specs.FormRules.{Defined}
use Rattle.cl_contracts.specs.declared.checked.Checked.{Checked}
use Rattle.cl_contracts.specs.declared.contract.Contract.{Contract}
use Rattle.cl_contracts.specs.Standings.{AreStanding, StandsAfter}
use Rattle.cl_bound.specs.declared.known.ContractBounds.{ContractBounds}
use Rattle.cl_bound.specs.declared.known.KnownBounds.{KnownBounds}
use Rattle.cl_bound.specs.Seen.{ShowFunctions, ShowDeployed}

-- the bound of each function of each of these deployed contracts, under this table
abbrev pub AreBounds : CostTable → List (Principal × Contract) → KnownBounds → Type 0
AreBounds table contracts bounds = (known : List Known) → AreStanding [] contracts known → ShowDeployed table known bounds.contracts.entries

-- the bound of each function of a contract that stands behind these deployed ones, under this table
pub record AreBoundsOf (table : CostTable) (contracts : List (Principal × Contract)) (c : Checked) (bounds : ContractBounds) : Type 0 where
  pub principal : bounds.principal ≡ c.principal
  pub length : c.source_length ≡ bounds.length
  pub functions : (known : List Known) (D : Defined) → AreStanding [] contracts known → StandsAfter known c D → ShowFunctions table D.context.functions bounds.functions.entries

-- one contract more may be kept without memory
abbrev pub HasRoom : KnownBounds → Type 0
HasRoom bounds = 0 < spare bounds.contracts
