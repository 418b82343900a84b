-- A map's entry that isn't replaced, and an asset that isn't minted twice.
use Rattle.std.specs.Prelude.{ℕ, List, [], ◌∷◌, codes}
use Rattle.cl_types.specs.Types.{UintType}
use Rattle.cl_types.specs.declared.sized.Access.TheVariants.{Public}
use Rattle.cl_values.specs.Tree.{Tree as Val, UintV}
use Rattle.cl_maps.specs.Maps.{put, empty}
use Rattle.cl_forms.specs.Forms.{Form}
use Rattle.cl_events.specs.declared.event.EventKind.TheVariants.{NftMint}
use Rattle.cl_events.specs.State.{State, empty_state, place, spot, holder}
use Rattle.cl_meaning.specs.Answers.{Answer}
use Rattle.cl_meaning.specs.Deployed.{Contract}
use Rattle.cl_meaning.specs.Samples.{name, form, map_form, nonfungible, function, P0, of_P0, contract, call, deploys}
use Rattle.cl_values.specs.Wire.{wire}

-- (define-map m uint uint)(define-public (ins (k uint) (v uint)) (ok (map-insert m k v)))
abbrev pub m_forms : List Form
m_forms =
    map_form (codes "m") UintType UintType
    ∷ function Public (codes "ins") ((codes "k", UintType) ∷ (codes "v", UintType) ∷ []) (form (codes "ok") (form (codes "map-insert") (name (codes "m") ∷ name (codes "k") ∷ name (codes "v") ∷ []) ∷ []))
    ∷ []

-- (define-non-fungible-token tok uint)(define-public (mk (i uint)) (nft-mint? tok i tx-sender))
abbrev pub tok_forms : List Form
tok_forms =
    nonfungible (codes "tok") UintType
    ∷ function Public (codes "mk") ((codes "i", UintType) ∷ []) (form (codes "nft-mint?") (name (codes "tok") ∷ name (codes "i") ∷ name (codes "tx-sender") ∷ []))
    ∷ []

abbrev pub entry_is : ℕ → State
entry_is n = record empty_state { entries = put (spot (of_P0 (codes "main")) (codes "m") (UintV 1)) (UintV n) empty }

abbrev pub ins : ℕ → State → Answer Val
ins n s = call (contract (codes "main") 87 m_forms ∷ []) (codes "main") P0 (codes "ins") (UintV 1 ∷ UintV n ∷ []) s

-- the state in which the asset u1 is P0's, as the mint leaves it
abbrev pub minted_one : State
minted_one = record empty_state {
  nonfungibles = put (place (of_P0 (codes "main")) (codes "tok")) (put (wire (UintV 1)) (holder P0) empty) empty;
  events = record { contract = of_P0 (codes "main"); kind = NftMint (codes "tok") (UintV 1) P0 } ∷ [];
}

abbrev pub tok_contract : Contract
tok_contract = contract (codes "main") 93 tok_forms

-- nobody has an asset
abbrev pub no_asset : State
no_asset = record empty_state { nonfungibles = put (place (of_P0 (codes "main")) (codes "tok")) empty empty }

abbrev pub tok_deployed : Answer Contract
tok_deployed = deploys [] (codes "main") tok_contract empty_state

abbrev pub mk : State → Answer Val
mk s = call (tok_contract ∷ []) (codes "main") P0 (codes "mk") (UintV 1 ∷ []) s
