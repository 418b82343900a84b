-- The state of a node: what contracts keep, the tokens and their holders, and what a transaction has told and moved so far.
use Rattle.std.specs.Prelude.{ℕ, Bool, List, [], ◌∷◌, ◌++◌, None, Result, Ok, Err}
use Rattle.cl_c32.specs.declared.principal.Principal.{Principal}
use Rattle.cl_values.specs.Tree.{Tree, PrincipalV}
use Rattle.cl_values.specs.Wire.{wire, name_wire}
use Rattle.cl_maps.specs.Maps.{Map, empty}
use Rattle.cl_tokens.specs.Table.{is_key}
use Rattle.cl_tokens.specs.declared.refusal.TokenRefusal.{TokenRefusal}
use Rattle.cl_tokens.specs.Ledger.{Ledger, no_tokens, minted}
use Rattle.cl_tokens.specs.Owners.{Owners}
use Rattle.cl_events.specs.declared.event.Event.{Event}
use Rattle.cl_events.specs.declared.event.EventKind.{EventKind}
use Rattle.cl_events.specs.declared.event.Move.{Move}
use Rattle.cl_events.specs.declared.event.Asset.{Asset}

-- Variables and tokens are kept by their contract and name, map entries by contract, name and key; owners of assets by the
-- asset's identifier; balances by their holder.
pub record State : Type 0 where
  pub variables : Map Tree
  pub entries : Map Tree
  pub fungibles : Map Ledger
  pub nonfungibles : Map Owners
  pub stx : Ledger
  pub events : List Event
  pub moves : List Move

-- the key of a holder
abbrev pub holder : Principal → List ℕ
holder p = wire (PrincipalV p)

-- whether two principals are one
abbrev pub is_principal : Principal → Principal → Bool
is_principal p q = is_key (holder p) (holder q)

-- the key of what a contract has under a name
abbrev pub place : Principal → List ℕ → List ℕ
place contract name = holder contract ++ name_wire name

-- the key of an entry of a contract's map
abbrev pub spot : Principal → List ℕ → Tree → List ℕ
spot contract name key = place contract name ++ wire key

abbrev pub with_variables : Map Tree → State → State
with_variables m s = record s { variables = m }

abbrev pub with_entries : Map Tree → State → State
with_entries m s = record s { entries = m }

abbrev pub with_fungibles : Map Ledger → State → State
with_fungibles m s = record s { fungibles = m }

abbrev pub with_nonfungibles : Map Owners → State → State
with_nonfungibles m s = record s { nonfungibles = m }

abbrev pub with_stx : Ledger → State → State
with_stx l s = record s { stx = l }

-- one more event, of a contract
abbrev pub with_event : Principal → EventKind → State → State
with_event contract kind s = record s { events = s.events ++ record { contract = contract; kind = kind } ∷ [] }

-- one more move
abbrev pub with_move : Principal → Asset → ℕ → State → State
with_move from asset amount s = record s { moves = s.moves ++ record { from = from; asset = asset; amount = amount } ∷ [] }

-- nothing is kept, and nobody holds anything
abbrev pub empty_state : State
empty_state = record { variables = empty; entries = empty; fungibles = empty; nonfungibles = empty; stx = no_tokens None; events = []; moves = [] }

-- a state between two transactions: nothing was told and nothing was moved
abbrev pub at_rest : State → State
at_rest s = record s { events = []; moves = [] }

-- a ledger after an act, or as it was where the act is refused
abbrev pub or_as_before : Ledger → Result Ledger TokenRefusal → Ledger
or_as_before l (Ok m) = m
or_as_before l (Err refusal) = l

-- STX that holders have from the start: it is minted for each of them, and nothing else mints STX
abbrev pub holdings : List (Principal × ℕ) → Ledger
holdings [] = no_tokens None
holdings (h ∷ hs) = or_as_before (holdings hs) (minted h.1 (holder h.0) (holdings hs))

-- the first state of a node: STX of these holders, and nothing else
abbrev pub genesis : List (Principal × ℕ) → State
genesis holders = with_stx (holdings holders) empty_state
