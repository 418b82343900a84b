-- What deployed contracts are seen as.
use Rattle.std.specs.Prelude.{ℕ, List}
use Rattle.cl_c32.specs.declared.principal.Principal.{Principal}
use Rattle.cl_values.specs.Tree.{Tree as Val}
use Rattle.cl_contracts.specs.declared.parts.Parts.{Parts}

-- a contract with the values of its constants
pub record ContractParts : Type 0 where
  pub checked : Parts
  pub constants : List (List ℕ × Val)

abbrev pub with_constants : Parts → List (List ℕ × Val) → ContractParts
with_constants checked constants = record { checked = checked; constants = constants }

-- contracts by principal, the oldest first, and for how many more there is room
pub record DeployedParts : Type 0 where
  pub contracts : List (Principal × ContractParts)
  pub room : ℕ
