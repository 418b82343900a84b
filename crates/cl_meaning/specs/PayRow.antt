-- A payment of STX.
use Rattle.std.specs.Prelude.{List, [], ◌∷◌, codes, None}
use Rattle.cl_types.specs.Types.{UintType, PrincipalType}
use Rattle.cl_types.specs.declared.sized.Access.TheVariants.{Public}
use Rattle.cl_values.specs.Tree.{Tree as Val, UintV, PrincipalV}
use Rattle.cl_maps.specs.Maps.{put, empty}
use Rattle.cl_tokens.specs.Ledger.{no_tokens}
use Rattle.cl_forms.specs.Forms.{Form}
use Rattle.cl_events.specs.declared.event.EventKind.TheVariants.{StxTransfer}
use Rattle.cl_events.specs.declared.event.Asset.TheVariants.{Stx}
use Rattle.cl_events.specs.State.{State, empty_state, genesis, holder}
use Rattle.cl_meaning.specs.Answers.{Answer}
use Rattle.cl_meaning.specs.Samples.{name, form, function, P0, P1, of_P0, contract, call}

-- (define-public (pay (a uint) (to principal)) (stx-transfer? a tx-sender to))
abbrev pub pay_forms : List Form
pay_forms = function Public (codes "pay") ((codes "a", UintType) ∷ (codes "to", PrincipalType) ∷ []) (form (codes "stx-transfer?") (name (codes "a") ∷ name (codes "tx-sender") ∷ name (codes "to") ∷ [])) ∷ []

abbrev pub pay : Answer Val
pay = call (contract (codes "main") 76 pay_forms ∷ []) (codes "main") P1 (codes "pay") (UintV 300 ∷ PrincipalV P0 ∷ []) (genesis ((P1, 1000) ∷ []))

-- the balances after it, with its event and its move
abbrev pub paid : State
paid = record empty_state {
  stx = record (no_tokens None) { supply = 1000; balances = put (holder P0) 300 (put (holder P1) 700 empty) };
  events = record { contract = of_P0 (codes "main"); kind = StxTransfer 300 P1 P0 } ∷ [];
  moves = record { from = P1; asset = Stx; amount = 300 } ∷ [];
}
