-- The act on a ledger that an event tells of.
use Rattle.std.specs.Prelude.{ℕ, ◌==◌, Bool, true, false, List, Option, None, Some, is_some}
use Rattle.cl_c32.specs.declared.principal.Principal.{Principal}
use Rattle.cl_values.specs.Wire.{wire}
use Rattle.cl_tokens.specs.declared.act.Act.{Act}
use Rattle.cl_tokens.specs.declared.act.Act.TheVariants.{Mint, Transfer, Burn}
use Rattle.cl_tokens.specs.declared.act.AssetAct.{AssetAct}
use Rattle.cl_tokens.specs.declared.act.AssetAct.TheVariants as asset
use Rattle.cl_tokens.specs.Deeds.{done}
use Rattle.cl_tokens.specs.AssetDeeds.{done as asset_done}
use Rattle.cl_events.specs.declared.event.EventKind.{EventKind}
use Rattle.cl_events.specs.declared.event.EventKind.TheVariants.{Print, FtMint, FtTransfer, FtBurn, NftMint, NftTransfer, NftBurn, StxTransfer, StxBurn}
use Rattle.cl_events.specs.declared.event.Move.{Move}
use Rattle.cl_events.specs.declared.event.Asset.TheVariants.{Stx as StxMoved, Ft, Nft}
use Rattle.cl_maps.specs.Maps.{get}
use Rattle.cl_events.specs.State.{State, holder, place}
use Rattle.cl_events.specs.Acts.{Acted, on_ledger, on_owners, on_stx}
use Rattle.cl_tables.specs.declared.place.Place.{Place}
use Rattle.cl_tables.specs.declared.deed.Deed.{Deed}
use Rattle.cl_tables.specs.declared.deed.Deed.TheVariants.{OnStx, OnFungible, OnAsset}
use Rattle.cl_tables.specs.Variables.{key_of}
use Rattle.cl_tables.specs.Spelled.{IsHolder, IsAsset}

abbrev pub place_of : Principal → List ℕ → Place
place_of contract name = record { contract = contract; name = name }

-- None where nothing is done to a ledger
abbrev pub deed : Principal → EventKind → Option Deed
deed contract (Print v) = None
deed contract (FtMint token amount to) = Some (OnFungible (place_of contract token) (Mint amount (holder to)))
deed contract (FtTransfer token amount from to) = Some (OnFungible (place_of contract token) (Transfer amount (holder from) (holder to)))
deed contract (FtBurn token amount from) = Some (OnFungible (place_of contract token) (Burn amount (holder from)))
deed contract (NftMint token id to) = Some (OnAsset (place_of contract token) (wire id) (asset.Mint (holder to)))
deed contract (NftTransfer token id from to) = Some (OnAsset (place_of contract token) (wire id) (asset.Transfer (holder from) (holder to)))
deed contract (NftBurn token id from) = Some (OnAsset (place_of contract token) (wire id) (asset.Burn (holder from)))
deed contract (StxTransfer amount from to) = Some (OnStx (Transfer amount (holder from) (holder to)))
deed contract (StxBurn amount from) = Some (OnStx (Burn amount (holder from)))

-- what it makes of a state
abbrev pub deed_done : Deed → State → Acted
deed_done (OnStx act) s = on_stx (done act) s
deed_done (OnFungible at act) s = on_ledger (key_of at) (done act) s
deed_done (OnAsset at id act) s = on_owners (key_of at) (asset_done id act) s

-- whom it gives an asset is a principal
abbrev pub GivesToHolder : AssetAct → Type 0
GivesToHolder (asset.Mint to) = IsHolder to
GivesToHolder (asset.Transfer from to) = IsHolder to
GivesToHolder (asset.Burn from) = Unit {0}

-- its holders are principals
abbrev pub AreHolders : Act → Type 0
AreHolders (Mint amount to) = IsHolder to
AreHolders (Transfer amount from to) = IsHolder from × IsHolder to
AreHolders (Burn amount from) = IsHolder from

abbrev pub IsSoundDeed : Deed → Type 0
IsSoundDeed (OnStx act) = AreHolders act
IsSoundDeed (OnFungible at act) = AreHolders act
IsSoundDeed (OnAsset at id act) = IsAsset id × GivesToHolder act

-- a burn of no STX, which is refused before the ledger is asked
abbrev pub is_empty_burn : EventKind → Bool
is_empty_burn (StxBurn amount from) = amount == 0
is_empty_burn kind = false

-- what leaves whom
abbrev pub move_in : Principal → EventKind → Option Move
move_in contract (FtTransfer token amount from to) = Some (record { from = from; asset = Ft contract token; amount = amount })
move_in contract (FtBurn token amount from) = Some (record { from = from; asset = Ft contract token; amount = amount })
move_in contract (NftTransfer token id from to) = Some (record { from = from; asset = Nft contract token id; amount = 1 })
move_in contract (NftBurn token id from) = Some (record { from = from; asset = Nft contract token id; amount = 1 })
move_in contract (StxTransfer amount from to) = Some (record { from = from; asset = StxMoved; amount = amount })
move_in contract (StxBurn amount from) = Some (record { from = from; asset = StxMoved; amount = amount })
move_in contract kind = None

-- whether there is the token that an act is on; STX is always there
abbrev pub is_there : Principal → EventKind → State → Bool
is_there contract (Print v) s = false
is_there contract (FtMint token amount to) s = is_some (get (place contract token) s.fungibles)
is_there contract (FtTransfer token amount from to) s = is_some (get (place contract token) s.fungibles)
is_there contract (FtBurn token amount from) s = is_some (get (place contract token) s.fungibles)
is_there contract (NftMint token id to) s = is_some (get (place contract token) s.nonfungibles)
is_there contract (NftTransfer token id from to) s = is_some (get (place contract token) s.nonfungibles)
is_there contract (NftBurn token id from) s = is_some (get (place contract token) s.nonfungibles)
is_there contract (StxTransfer amount from to) s = true
is_there contract (StxBurn amount from) s = true
