-- What principals have of assets.
use Rattle.std.specs.Prelude.{ℕ, List, Option, None, Some, if◌then◌else◌}
use Rattle.cl_c32.specs.declared.principal.Principal.{Principal}
use Rattle.cl_values.specs.Tree.{Tree}
use Rattle.cl_values.specs.Wire.{wire}
use Rattle.cl_maps.specs.Maps.{get}
use Rattle.cl_tokens.specs.Table.{is_key}
use Rattle.cl_tokens.specs.Ledger.{Ledger, balance}
use Rattle.cl_tokens.specs.Owners.{Owners}
use Rattle.cl_events.specs.declared.event.Asset.{Asset}
use Rattle.cl_events.specs.declared.event.Asset.TheVariants.{Stx, Ft, Nft}
use Rattle.cl_events.specs.State.{State, holder, place}
use Rattle.cl_tables.specs.declared.place.Place.{Place}
use Rattle.cl_tables.specs.Variables.{key_of}

-- of a ledger that may not be there
abbrev pub balance_in : List ℕ → Option Ledger → ℕ
balance_in who None = 0
balance_in who (Some l) = balance who l.balances

abbrev pub owner_in : List ℕ → Option Owners → Option (List ℕ)
owner_in asset None = None
owner_in asset (Some m) = get asset m

abbrev pub one_if : List ℕ → Option (List ℕ) → ℕ
one_if who None = 0
one_if who (Some owner) = if is_key owner who then 1 else 0

-- the key of who owns an asset
abbrev pub owner_of : Place → Tree → State → Option (List ℕ)
owner_of at id s = owner_in (wire id) (get (key_of at) s.nonfungibles)

abbrev pub key_amount : Asset → List ℕ → State → ℕ
key_amount Stx who s = balance who s.stx.balances
key_amount (Ft contract token) who s = balance_in who (get (place contract token) s.fungibles)
key_amount (Nft contract token id) who s = one_if who (owner_in (wire id) (get (place contract token) s.nonfungibles))

abbrev pub amount_of : Asset → Principal → State → ℕ
amount_of asset who s = key_amount asset (holder who) s
