-- The rows of a state.
use Rattle.std.specs.Prelude.{◌≡◌, ℕ, ◌<◌, List, Option, None, Some, Contains}
use Rattle.std.specs.List.{All, AllPairs}
use Rattle.cl_c32.specs.declared.principal.Principal.{Principal}
use Rattle.cl_values.specs.Tree.{Tree, UintV, PrincipalV}
use Rattle.cl_values.specs.Wire.{wire}
use Rattle.cl_values.specs.Valid.{IsPrincipal, IsVal}
use Rattle.cl_maps.specs.Maps.{get}
use Rattle.cl_tokens.specs.Ledger.{Ledger, balance}
use Rattle.cl_tokens.specs.Owners.{Owners}
use Rattle.cl_events.specs.State.{State, holder, spot}
use Rattle.cl_tables.specs.declared.place.Place.{Place}
use Rattle.cl_tables.specs.declared.row.RowKind.{RowKind}
use Rattle.cl_tables.specs.declared.row.RowKind.TheVariants.{Variable, MapEntry, Balance, Supply, Owner, StxBalance}
use Rattle.cl_tables.specs.declared.row.StateRow.{StateRow}
use Rattle.cl_tables.specs.Variables.{IsPlace, key_of, IsPlaceKey}
use Rattle.cl_tables.specs.Spelled.{Each, IsSpelled}

-- a row of what a contract has under a name
abbrev pub placed_row : RowKind → Place → Option Tree → Tree → StateRow
placed_row kind at key value = record { kind = kind; contract = Some at.contract; name = Some at.name; key = key; value = value }

-- a variable and what it holds
abbrev pub variable_row : Place → Tree → StateRow
variable_row at v = placed_row Variable at None v

-- a key of a map and what stands under it
abbrev pub entry_row : Place → Tree → Tree → StateRow
entry_row at key v = placed_row MapEntry at (Some key) v

-- what a holder has of a fungible token
abbrev pub balance_row : Place → Principal → ℕ → StateRow
balance_row at who amount = placed_row Balance at (Some (PrincipalV who)) (UintV amount)

-- the supply of a fungible token
abbrev pub supply_row : Place → ℕ → StateRow
supply_row at supply = placed_row Supply at None (UintV supply)

-- an asset of a non-fungible token and its owner
abbrev pub owner_row : Place → Tree → Principal → StateRow
owner_row at id owner = placed_row Owner at (Some id) (PrincipalV owner)

-- what a holder has of STX
abbrev pub stx_row : Principal → ℕ → StateRow
stx_row who amount = record { kind = StxBalance; contract = None; name = None; key = Some (PrincipalV who); value = UintV amount }

-- the rows of each variable, of each entry of a map, of each balance above 0, of the supply of each fungible token, and of each
-- asset
pub data IsRow (s : State) : StateRow → Type 0 where
  OfVariable : (at : Place) (v : Tree) → IsPlace at → get (key_of at) s.variables ≡ Some v → IsRow s (variable_row at v)
  OfEntry : (at : Place) (key v : Tree) → IsPlace at → IsVal key → get (spot at.contract at.name key) s.entries ≡ Some v → IsRow s (entry_row at key v)
  OfBalance : (at : Place) (token : Ledger) (who : Principal) → IsPlace at → get (key_of at) s.fungibles ≡ Some token → IsPrincipal who → 0 < balance (holder who) token.balances → IsRow s (balance_row at who (balance (holder who) token.balances))
  OfSupply : (at : Place) (token : Ledger) → IsPlace at → get (key_of at) s.fungibles ≡ Some token → IsRow s (supply_row at token.supply)
  OfAsset : (at : Place) (owners : Owners) (id : Tree) (owner : Principal) → IsPlace at → get (key_of at) s.nonfungibles ≡ Some owners → IsVal id → IsPrincipal owner → get (wire id) owners ≡ Some (holder owner) → IsRow s (owner_row at id owner)
  OfStx : (who : Principal) → IsPrincipal who → 0 < balance (holder who) s.stx.balances → IsRow s (stx_row who (balance (holder who) s.stx.balances))

-- just the rows of a state, each once
pub record AreRows (rows : List StateRow) (s : State) : Type 0 where
  pub sound : All (IsRow s) rows
  pub whole : (row : StateRow) → IsRow s row → Contains rows row
  pub once : AllPairs (λ a b. a ≡ b → ⊥) rows

-- each key of a state is that of something that has a row, so nothing is kept without one
pub record IsListed (s : State) : Type 0 where
  pub variables : Each (λ key v. IsPlaceKey key) s.variables
  pub fungibles : Each (λ key token. IsPlaceKey key) s.fungibles
  pub nonfungibles : Each (λ key owners. IsPlaceKey key) s.nonfungibles
  pub spelled : IsSpelled s
