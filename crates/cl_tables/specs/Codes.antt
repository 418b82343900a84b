-- How a ghost variable stores a state.
use Rattle.std.specs.Prelude.{◌≡◌, ◌==◌, ℕ, List, [], None, if◌then◌else◌, refl}
use Rattle.std.specs.Coded.{Coded, code_by, coded×, coded_ℕ, coded_list}
use Rattle.cl_c32.specs.declared.principal.Principal.{Principal}
use Rattle.cl_values.specs.Tree.{Tree, PrincipalV, NoneV}
use Rattle.cl_values.specs.TreeCode.{tree_code}
use Rattle.cl_maps.specs.Maps.{Map}
use Rattle.cl_maps.specs.MapCode.{map_code}
use Rattle.cl_tokens.specs.Ledger.{Ledger, ledger_code}
use Rattle.cl_tokens.specs.Owners.{Owners}
use Rattle.cl_events.specs.declared.event.Event.{Event}
use Rattle.cl_events.specs.declared.event.EventKind.{EventKind}
use Rattle.cl_events.specs.declared.event.EventKind.TheVariants.{Print, FtMint, FtTransfer, FtBurn, NftMint, NftTransfer, NftBurn, StxTransfer, StxBurn}
use Rattle.cl_events.specs.declared.event.Move.{Move}
use Rattle.cl_events.specs.declared.event.Asset.{Asset}
use Rattle.cl_events.specs.declared.event.Asset.TheVariants.{Stx, Ft, Nft}
use Rattle.cl_events.specs.State.{State}

abbrev pub nobody : Principal
nobody = record { address = record { version = 0; hash = [] }; contract = None }

abbrev pub principal_of : Tree → Principal
principal_of (PrincipalV p) = p
principal_of v = nobody

abbrev pub principal_code : Coded Principal
principal_code = code_by Tree tree_code PrincipalV principal_of (λ _. refl)

abbrev pub name_code : Coded (List ℕ)
name_code = coded_list coded_ℕ

-- what an event of any kind can hold
pub record Parts : Type 0 where
  pub tag : ℕ
  pub token : List ℕ
  pub amount : ℕ
  pub from : Principal
  pub to : Principal
  pub value : Tree

abbrev pub parts_code : Coded Parts
parts_code =
    code_by (ℕ × (List ℕ × (ℕ × (Principal × (Principal × Tree))))) (coded× coded_ℕ (coded× name_code (coded× coded_ℕ (coded× principal_code (coded× principal_code tree_code)))))
    (λ p. (p.tag, (p.token, (p.amount, (p.from, (p.to, p.value))))))
    (λ q. record { tag = q.0; token = q.1.0; amount = q.1.1.0; from = q.1.1.1.0; to = q.1.1.1.1.0; value = q.1.1.1.1.1 })
    (λ _. refl)

abbrev pub parts_of : EventKind → Parts
parts_of (Print v) = record { tag = 0; token = []; amount = 0; from = nobody; to = nobody; value = v }
parts_of (FtMint token amount to) = record { tag = 1; token = token; amount = amount; from = nobody; to = to; value = NoneV }
parts_of (FtTransfer token amount from to) = record { tag = 2; token = token; amount = amount; from = from; to = to; value = NoneV }
parts_of (FtBurn token amount from) = record { tag = 3; token = token; amount = amount; from = from; to = nobody; value = NoneV }
parts_of (NftMint token id to) = record { tag = 4; token = token; amount = 0; from = nobody; to = to; value = id }
parts_of (NftTransfer token id from to) = record { tag = 5; token = token; amount = 0; from = from; to = to; value = id }
parts_of (NftBurn token id from) = record { tag = 6; token = token; amount = 0; from = from; to = nobody; value = id }
parts_of (StxTransfer amount from to) = record { tag = 7; token = []; amount = amount; from = from; to = to; value = NoneV }
parts_of (StxBurn amount from) = record { tag = 8; token = []; amount = amount; from = from; to = nobody; value = NoneV }

abbrev pub kind_of : Parts → EventKind
kind_of p =
    if p.tag == 0 then Print p.value
    else if p.tag == 1 then FtMint p.token p.amount p.to
    else if p.tag == 2 then FtTransfer p.token p.amount p.from p.to
    else if p.tag == 3 then FtBurn p.token p.amount p.from
    else if p.tag == 4 then NftMint p.token p.value p.to
    else if p.tag == 5 then NftTransfer p.token p.value p.from p.to
    else if p.tag == 6 then NftBurn p.token p.value p.from
    else if p.tag == 7 then StxTransfer p.amount p.from p.to
    else StxBurn p.amount p.from

pub kind_back : (k : EventKind) → kind_of (parts_of k) ≡ k
kind_back (Print v) = refl
kind_back (FtMint token amount to) = refl
kind_back (FtTransfer token amount from to) = refl
kind_back (FtBurn token amount from) = refl
kind_back (NftMint token id to) = refl
kind_back (NftTransfer token id from to) = refl
kind_back (NftBurn token id from) = refl
kind_back (StxTransfer amount from to) = refl
kind_back (StxBurn amount from) = refl

abbrev pub kind_code : Coded EventKind
kind_code = code_by Parts parts_code parts_of kind_of kind_back

abbrev pub event_code : Coded Event
event_code = code_by (Principal × EventKind) (coded× principal_code kind_code) (λ e. (e.contract, e.kind)) (λ p. record { contract = p.0; kind = p.1 }) (λ _. refl)

abbrev pub asset_parts : Asset → ℕ × (Principal × (List ℕ × Tree))
asset_parts Stx = (0, (nobody, ([], NoneV)))
asset_parts (Ft contract name) = (1, (contract, (name, NoneV)))
asset_parts (Nft contract name id) = (2, (contract, (name, id)))

abbrev pub asset_of : ℕ × (Principal × (List ℕ × Tree)) → Asset
asset_of p = if p.0 == 0 then Stx else if p.0 == 1 then Ft p.1.0 p.1.1.0 else Nft p.1.0 p.1.1.0 p.1.1.1

pub asset_back : (a : Asset) → asset_of (asset_parts a) ≡ a
asset_back Stx = refl
asset_back (Ft contract name) = refl
asset_back (Nft contract name id) = refl

abbrev pub asset_code : Coded Asset
asset_code = code_by (ℕ × (Principal × (List ℕ × Tree))) (coded× coded_ℕ (coded× principal_code (coded× name_code tree_code))) asset_parts asset_of asset_back

abbrev pub move_code : Coded Move
move_code = code_by (Principal × (Asset × ℕ)) (coded× principal_code (coded× asset_code coded_ℕ)) (λ m. (m.from, (m.asset, m.amount))) (λ p. record { from = p.0; asset = p.1.0; amount = p.1.1 }) (λ _. refl)

abbrev pub state_code : Coded State
state_code =
    code_by (Map Tree × (Map Tree × (Map Ledger × (Map Owners × (Ledger × (List Event × List Move))))))
    (coded× (map_code tree_code) (coded× (map_code tree_code) (coded× (map_code ledger_code) (coded× (map_code (map_code name_code)) (coded× ledger_code (coded× (coded_list event_code) (coded_list move_code)))))))
    (λ s. (s.variables, (s.entries, (s.fungibles, (s.nonfungibles, (s.stx, (s.events, s.moves)))))))
    (λ p. record { variables = p.0; entries = p.1.0; fungibles = p.1.1.0; nonfungibles = p.1.1.1.0; stx = p.1.1.1.1.0; events = p.1.1.1.1.1.0; moves = p.1.1.1.1.1.1 })
    (λ _. refl)
