-- The sample token: its deployment, a mint, transfers, and what is refused.
use Rattle.std.specs.Prelude.{ℕ, false, List, [], ◌∷◌, codes, Some}
use Rattle.cl_types.specs.Types.{UintType, PrincipalType, BuffType, Utf8Type, OptionalType}
use Rattle.cl_types.specs.declared.sized.Access.TheVariants.{Public, ReadOnly}
use Rattle.cl_values.specs.Tree.{Tree as Val, UintV, BuffV, PrincipalV, NoneV, ResponseV}
use Rattle.cl_maps.specs.Maps.{Map, put, empty}
use Rattle.cl_tokens.specs.Ledger.{Ledger}
use Rattle.cl_forms.specs.Forms.{Form}
use Rattle.cl_events.specs.declared.event.Event.{Event}
use Rattle.cl_events.specs.State.{State, empty_state, place, holder}
use Rattle.cl_meaning.specs.Answers.{Answer}
use Rattle.cl_meaning.specs.Deployed.{Contract}
use Rattle.cl_meaning.specs.Samples.{name, uint, buffer, ascii, form, constant, variable, fungible, function, P0, P1, of_P0, contract, call, deploys}
use Rattle.cl_c32.specs.declared.principal.Principal.{Principal}
use Rattle.cl_events.specs.declared.event.EventKind.{EventKind}

abbrev pub token_forms : List Form
token_forms =
    constant (codes "owner") (name (codes "tx-sender"))
    ∷ constant (codes "err-owner") (form (codes "err") (uint 100 ∷ []))
    ∷ constant (codes "err-sender") (form (codes "err") (uint 101 ∷ []))
    ∷ fungible (codes "coin") (Some (uint 1000000000000))
    ∷ variable (codes "uri") (OptionalType (Utf8Type 256)) (name (codes "none"))
    ∷ function ReadOnly (codes "get-name") [] (form (codes "ok") (ascii (codes "Coin") ∷ []))
    ∷ function ReadOnly (codes "get-symbol") [] (form (codes "ok") (ascii (codes "CN") ∷ []))
    ∷ function ReadOnly (codes "get-decimals") [] (form (codes "ok") (uint 6 ∷ []))
    ∷ function ReadOnly (codes "get-balance") ((codes "who", PrincipalType) ∷ []) (form (codes "ok") (form (codes "ft-get-balance") (name (codes "coin") ∷ name (codes "who") ∷ []) ∷ []))
    ∷ function ReadOnly (codes "get-total-supply") [] (form (codes "ok") (form (codes "ft-get-supply") (name (codes "coin") ∷ []) ∷ []))
    ∷ function ReadOnly (codes "get-token-uri") [] (form (codes "ok") (form (codes "var-get") (name (codes "uri") ∷ []) ∷ []))
    ∷ function Public (codes "set-token-uri") ((codes "value", Utf8Type 256) ∷ []) (form (codes "begin") (form (codes "asserts!") (form (codes "is-eq") (name (codes "tx-sender") ∷ name (codes "owner") ∷ []) ∷ name (codes "err-owner") ∷ []) ∷ form (codes "ok") (form (codes "var-set") (name (codes "uri") ∷ form (codes "some") (name (codes "value") ∷ []) ∷ []) ∷ []) ∷ []))
    ∷ function Public (codes "mint") ((codes "amount", UintType) ∷ (codes "to", PrincipalType) ∷ []) (form (codes "begin") (form (codes "asserts!") (form (codes "is-eq") (name (codes "tx-sender") ∷ name (codes "owner") ∷ []) ∷ name (codes "err-owner") ∷ []) ∷ form (codes "ft-mint?") (name (codes "coin") ∷ name (codes "amount") ∷ name (codes "to") ∷ []) ∷ []))
    ∷ function Public (codes "transfer") ((codes "amount", UintType) ∷ (codes "sender", PrincipalType) ∷ (codes "to", PrincipalType) ∷ (codes "memo", OptionalType (BuffType 34)) ∷ []) (form (codes "begin") (form (codes "asserts!") (form (codes "is-eq") (name (codes "tx-sender") ∷ name (codes "sender") ∷ []) ∷ name (codes "err-sender") ∷ []) ∷ form (codes "try!") (form (codes "ft-transfer?") (name (codes "coin") ∷ name (codes "amount") ∷ name (codes "sender") ∷ name (codes "to") ∷ []) ∷ []) ∷ form (codes "match") (name (codes "memo") ∷ name (codes "note") ∷ form (codes "print") (name (codes "note") ∷ []) ∷ buffer [] ∷ []) ∷ form (codes "ok") (name (codes "true") ∷ []) ∷ []))
    ∷ []

-- the text, each line ended by LF, has 1109 bytes
abbrev pub token_contract : Contract
token_contract = contract (codes "token") 1109 token_forms

abbrev pub token_deployed : Answer Contract
token_deployed = deploys [] (codes "token") token_contract empty_state

-- the contract with its constants
abbrev pub token : Contract
token = record token_contract { constants = (codes "owner", PrincipalV P0) ∷ (codes "err-owner", ResponseV false (UintV 100)) ∷ (codes "err-sender", ResponseV false (UintV 101)) ∷ [] }

-- the ledger of the coin at so many coins of P1 and of P0
abbrev pub coins : Map ℕ → ℕ → Ledger
coins balances supply = record { cap = Some 1000000000000; supply = supply; balances = balances }

-- the state with that ledger
abbrev pub with_coins : Ledger → State
with_coins ledger = record empty_state { variables = put (place (of_P0 (codes "token")) (codes "uri")) NoneV empty; fungibles = put (place (of_P0 (codes "token")) (codes "coin")) ledger empty }

abbrev pub no_coins : State
no_coins = with_coins (coins empty 0)

abbrev pub after_mint : State
after_mint = with_coins (coins (put (holder P1) 500 empty) 500)

abbrev pub after_transfer : State
after_transfer = with_coins (coins (put (holder P1) 300 (put (holder P0) 200 empty)) 500)

abbrev pub of_token : Principal → List ℕ → List Val → State → Answer Val
of_token sender f vs s = call (token ∷ []) (codes "token") sender f vs s

abbrev pub mint : Principal → ℕ → State → Answer Val
mint sender n s = of_token sender (codes "mint") (UintV n ∷ PrincipalV P1 ∷ []) s

-- P1 transfers to P0
abbrev pub transfer : ℕ → Val → State → Answer Val
transfer n memo s = of_token P1 (codes "transfer") (UintV n ∷ PrincipalV P1 ∷ PrincipalV P0 ∷ memo ∷ []) s

-- an event of the token
abbrev pub told : EventKind → Event
told kind = record { contract = of_P0 (codes "token"); kind = kind }

abbrev pub hi : Val
hi = BuffV (104 ∷ 105 ∷ [])
