-- What the natives on tokens change and answer. The tests come in this order: amount, same principal, sender, existence,
-- ownership, balance.
use Rattle.std.specs.Prelude.{ℕ, ◌==◌, List, if◌then◌else◌, Option, Some, None, Result, Ok, Err}
use Rattle.cl_c32.specs.declared.principal.Principal.{Principal}
use Rattle.cl_values.specs.Wire.{wire}
use Rattle.cl_maps.specs.Maps.{get, put}
use Rattle.cl_tokens.specs.declared.refusal.TokenRefusal.{TokenRefusal}
use Rattle.cl_tokens.specs.declared.refusal.TokenRefusal.TheVariants.{Code}
use Rattle.cl_tokens.specs.Ledger.{Ledger, minted, sent, burnt}
use Rattle.cl_tokens.specs.Owners.{Owners, asset_minted, asset_sent, asset_burnt}
use Rattle.cl_events.specs.declared.event.EventKind.{EventKind}
use Rattle.cl_events.specs.declared.event.EventKind.TheVariants.{Print, FtMint, FtTransfer, FtBurn, NftMint, NftTransfer, NftBurn, StxTransfer, StxBurn}
use Rattle.cl_events.specs.declared.event.Asset.TheVariants.{Stx, Ft, Nft}
use Rattle.cl_events.specs.State.{State, holder, is_principal, place, with_fungibles, with_nonfungibles, with_stx, with_event, with_move}

-- the state after an act, or the refusal; None where there is no such token
abbrev pub Acted : Type 0
Acted = Option (Result State TokenRefusal)

-- a changed part of the state, put in its place
abbrev pub replaced : {A : Type 0} → (A → State) → Result A TokenRefusal → Acted
replaced put_back (Ok part) = Some (Ok (put_back part))
replaced put_back (Err refusal) = Some (Err refusal)

-- an act on the fungible token of a place
abbrev pub on_ledger : List ℕ → (Ledger → Result Ledger TokenRefusal) → State → Acted
on_ledger at act s = elim (get at s.fungibles) [ None ↦ None | Some l ↦ replaced (λ m. with_fungibles (put at m s.fungibles) s) (act l) ]

-- an act on the non-fungible token of a place
abbrev pub on_owners : List ℕ → (Owners → Result Owners TokenRefusal) → State → Acted
on_owners at act s = elim (get at s.nonfungibles) [ None ↦ None | Some l ↦ replaced (λ m. with_nonfungibles (put at m s.nonfungibles) s) (act l) ]

-- an act on STX
abbrev pub on_stx : (Ledger → Result Ledger TokenRefusal) → State → Acted
on_stx act s = replaced (λ m. with_stx m s) (act s.stx)

-- of STX no amount of 0 is burnt
abbrev pub burnt_stx : ℕ → List ℕ → Ledger → Result Ledger TokenRefusal
burnt_stx amount from l = if amount == 0 then Err (Code 3) else burnt amount from l

-- the change of balances or owners that an event tells of
unfoldable pub changed : Principal → EventKind → State → Acted
changed contract (Print v) s = None
changed contract (FtMint token amount to) s = on_ledger (place contract token) (minted amount (holder to)) s
changed contract (FtTransfer token amount from to) s = on_ledger (place contract token) (sent amount (holder from) (holder to)) s
changed contract (FtBurn token amount from) s = on_ledger (place contract token) (burnt amount (holder from)) s
changed contract (NftMint token id to) s = on_owners (place contract token) (asset_minted (wire id) (holder to)) s
changed contract (NftTransfer token id from to) s = on_owners (place contract token) (asset_sent (wire id) (holder from) (holder to)) s
changed contract (NftBurn token id from) s = on_owners (place contract token) (asset_burnt (wire id) (holder from)) s
changed contract (StxTransfer amount from to) s = on_stx (sent amount (holder from) (holder to)) s
changed contract (StxBurn amount from) s = on_stx (burnt_stx amount (holder from)) s

-- what left whom; a mint moves nothing, and a burn counts as sent
unfoldable pub moved : Principal → EventKind → State → State
moved contract (Print v) s = s
moved contract (FtMint token amount to) s = s
moved contract (FtTransfer token amount from to) s = with_move from (Ft contract token) amount s
moved contract (FtBurn token amount from) s = with_move from (Ft contract token) amount s
moved contract (NftMint token id to) s = s
moved contract (NftTransfer token id from to) s = with_move from (Nft contract token id) 1 s
moved contract (NftBurn token id from) s = with_move from (Nft contract token id) 1 s
moved contract (StxTransfer amount from to) s = with_move from Stx amount s
moved contract (StxBurn amount from) s = with_move from Stx amount s

-- what was changed, with its event and its move
abbrev pub told : Principal → EventKind → Acted → Acted
told contract kind None = None
told contract kind (Some (Err refusal)) = Some (Err refusal)
told contract kind (Some (Ok s)) = Some (Ok (moved contract kind (with_event contract kind s)))

-- an act of a contract's code on tokens: the change, its event, and its move
unfoldable pub acted : Principal → EventKind → State → Acted
acted contract kind s = told contract kind (changed contract kind s)

-- STX leaves the sender of the transaction alone: the number of the refusal, by the tests up to that of the sender
abbrev pub sender_refusal : Principal → EventKind → Option ℕ
sender_refusal sender (StxTransfer amount from to) =
    if amount == 0 then Some 3
    else if is_principal from to then Some 2
    else if is_principal from sender then None
    else Some 4
sender_refusal sender (StxBurn amount from) =
    if amount == 0 then Some 3
    else if is_principal from sender then None
    else Some 4
sender_refusal sender kind = None

-- an act of a contract's code in a transaction of this sender
unfoldable pub acted_by : Principal → Principal → EventKind → State → Acted
acted_by sender contract kind s = elim (sender_refusal sender kind) [ None ↦ acted contract kind s | Some n ↦ Some (Err (Code n)) ]
