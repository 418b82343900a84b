-- The rows of a state part by part, as they are put behind one another.
use Rattle.std.specs.Prelude.{◌≡◌, ℕ, ◌+◌, ◌<◌, ◌==◌, List, [], ◌∷◌, ◌++◌, ◌⊎◌, get_or, if◌then◌else◌, Option, None, Some, Contains}
use Rattle.std.specs.List.{AllZip, AllByRecursion as ByRecursion}
use Rattle.cl_c32.specs.declared.principal.Principal.{Principal}
use Rattle.cl_values.specs.Tree.{Tree}
use Rattle.cl_values.specs.Wire.{wire, name_wire}
use Rattle.cl_values.specs.Valid.{IsPrincipal, IsVal}
use Rattle.cl_maps.specs.Maps.{Map, get}
use Rattle.cl_tokens.specs.Ledger.{Ledger, balance}
use Rattle.cl_tokens.specs.Owners.{Owners}
use Rattle.cl_events.specs.State.{holder, spot}
use Rattle.cl_tables.specs.declared.place.Place.{Place}
use Rattle.cl_tables.specs.declared.row.StateRow.{StateRow}
use Rattle.cl_tables.specs.Variables.{IsPlace, key_of}
use Rattle.cl_tables.specs.StateRows.{variable_row, entry_row, balance_row, supply_row, owner_row, stx_row}

-- ------------------------------------------------------------ keys

-- the wire form of a value
abbrev pub IsSpelling : List ℕ → Type 0
IsSpelling bytes = (v : Tree) × IsVal v × (bytes ≡ wire v)

abbrev pub BeginsWithPrincipal : List ℕ → Type 0
BeginsWithPrincipal bytes = (who : Principal) × (rest : List ℕ) × IsPrincipal who × (bytes ≡ holder who ++ rest)

abbrev pub BeginsWithName : List ℕ → Type 0
BeginsWithName bytes = (name : List ℕ) × (rest : List ℕ) × (bytes ≡ name_wire name ++ rest)

-- the length of the principal with which bytes begin: of a standard one, or with the length of the contract's name
unfoldable pub principal_size : List ℕ → ℕ
principal_size bytes = if get_or bytes 0 0 == 5 then 22 else 23 + get_or bytes 22 0

-- ------------------------------------------------------------ the row of an entry of a table

abbrev pub IsVariableRow : List ℕ × Tree → StateRow → Type 0
IsVariableRow e row = (at : Place) × IsPlace at × (e.0 ≡ key_of at) × (row ≡ variable_row at e.1)

abbrev pub IsEntryRow : List ℕ × Tree → StateRow → Type 0
IsEntryRow e row = (at : Place) × (key : Tree) × IsPlace at × IsVal key × (e.0 ≡ spot at.contract at.name key) × (row ≡ entry_row at key e.1)

-- of a token, or of STX
abbrev pub holding_row : Option Place → Principal → ℕ → StateRow
holding_row (Some at) who amount = balance_row at who amount
holding_row None who amount = stx_row who amount

abbrev pub IsHolding : Option Place → List ℕ × ℕ → StateRow → Type 0
IsHolding of e row = (who : Principal) × IsPrincipal who × (e.0 ≡ holder who) × (row ≡ holding_row of who e.1)

abbrev pub IsOwnerRow : Place → List ℕ × List ℕ → StateRow → Type 0
IsOwnerRow at e row = (id : Tree) × (owner : Principal) × IsVal id × IsPrincipal owner × (e.0 ≡ wire id) × (e.1 ≡ holder owner) × (row ≡ owner_row at id owner)

-- rows are put behind others, one for each entry of a table
abbrev pub Lists : {A : Type 0} → (A → StateRow → Type 0) → List A → List StateRow → List StateRow → Type 0
Lists R es old new = (made : List StateRow) × (new ≡ old ++ made) × AllZip R es made

-- ------------------------------------------------------------ what has rows

abbrev pub OfVariables : Map Tree → StateRow → Type 0
OfVariables m row = (at : Place) × (v : Tree) × IsPlace at × (get (key_of at) m ≡ Some v) × (row ≡ variable_row at v)

abbrev pub OfEntries : Map Tree → StateRow → Type 0
OfEntries m row = (at : Place) × (key : Tree) × (v : Tree) × IsPlace at × IsVal key × (get (spot at.contract at.name key) m ≡ Some v) × (row ≡ entry_row at key v)

abbrev pub OfHoldings : Option Place → Map ℕ → StateRow → Type 0
OfHoldings of m row = (who : Principal) × IsPrincipal who × (0 < balance (holder who) m) × (row ≡ holding_row of who (balance (holder who) m))

abbrev pub OfFungible : Place → Ledger → StateRow → Type 0
OfFungible at l row = (row ≡ supply_row at l.supply) ⊎ OfHoldings (Some at) l.balances row

abbrev pub OfNonFungible : Place → Owners → StateRow → Type 0
OfNonFungible at m row = (id : Tree) × (owner : Principal) × IsVal id × IsPrincipal owner × (get (wire id) m ≡ Some (holder owner)) × (row ≡ owner_row at id owner)

-- of each token, by its place
abbrev pub OfPlaced : {A : Type 0} → (Place → A → StateRow → Type 0) → Map A → StateRow → Type 0
OfPlaced {A} P m row = (at : Place) × (a : A) × IsPlace at × (get (key_of at) m ≡ Some a) × P at a row

-- ------------------------------------------------------------ lists of rows

-- no row stands twice
abbrev pub AreApart : List StateRow → Type 0
AreApart [] = Unit {0}
AreApart (row ∷ rows) = ByRecursion (λ other. row ≡ other → ⊥) rows × AreApart rows

-- just the rows with a property, each once
pub record AreJust (P : StateRow → Type 0) (rows : List StateRow) : Type 0 where
  pub sound : ByRecursion P rows
  pub whole : (row : StateRow) → P row → Contains rows row
  pub once : AreApart rows

-- these are put behind others
abbrev pub Adds : (StateRow → Type 0) → List StateRow → List StateRow → Type 0
Adds P old new = (made : List StateRow) × (new ≡ old ++ made) × AreJust P made
