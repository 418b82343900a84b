-- States in which each key spells what it is the key of, and balances sum to supplies.
use Rattle.std.specs.Prelude.{◌≡◌, ℕ, List, Some}
use Rattle.cl_c32.specs.declared.principal.Principal.{Principal}
use Rattle.cl_values.specs.Tree.{Tree}
use Rattle.cl_values.specs.Wire.{wire}
use Rattle.cl_values.specs.Valid.{IsPrincipal, IsVal}
use Rattle.cl_maps.specs.Maps.{Map, get}
use Rattle.cl_tokens.specs.Ledger.{Ledger, IsLedger}
use Rattle.cl_tokens.specs.Owners.{Owners}
use Rattle.cl_events.specs.State.{State, holder, spot}
use Rattle.cl_tables.specs.declared.place.Place.{Place}
use Rattle.cl_tables.specs.Variables.{IsPlace}

-- the key of a holder
abbrev pub IsHolder : List ℕ → Type 0
IsHolder key = (who : Principal) × IsPrincipal who × (key ≡ holder who)

-- the key of an entry of a map
abbrev pub IsSpot : List ℕ → Type 0
IsSpot key = (at : Place) × (k : Tree) × IsPlace at × IsVal k × (key ≡ spot at.contract at.name k)

-- the key of an asset
abbrev pub IsAsset : List ℕ → Type 0
IsAsset key = (id : Tree) × IsVal id × (key ≡ wire id)

-- of each key and what it has
abbrev pub Each : {A : Type 0} → (List ℕ → A → Type 0) → Map A → Type 0
Each {A} P m = (key : List ℕ) (a : A) → get key m ≡ Some a → P key a

-- whoever has a balance is a principal, and the balances sum to the supply
pub record AreHeld (l : Ledger) : Type 0 where
  pub holders : Each (λ key n. IsHolder key) l.balances
  pub sums : IsLedger l

-- each asset is owned by a principal
abbrev pub AreOwned : Owners → Type 0
AreOwned m = Each (λ key owner. IsAsset key × IsHolder owner) m

pub record IsSpelled (s : State) : Type 0 where
  pub entries : Each (λ key v. IsSpot key) s.entries
  pub fungibles : Each (λ key l. AreHeld l) s.fungibles
  pub nonfungibles : Each (λ key m. AreOwned m) s.nonfungibles
  pub stx : AreHeld s.stx
