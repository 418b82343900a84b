-- The states that tables had before their changes, by going back over the notes of these.
use Rattle.std.specs.Prelude.{ℕ, ◌≡◌, ◌+◌, ◌<◌, ◌≤◌, zero, suc, None, List, [], ◌∷◌, ◌++◌, Some, Result, Ok, Err, length, map, take, refl}
use Rattle.std.specs.Coded.{Coded, code_by, coded×, coded_list}
use Rattle.std.proofs.Math.ListN.{get_or}
use Rattle.indexmap.specs.Layout.{set_value_at}
use Rattle.cl_types.specs.declared.fault.Fault.{Fault}
use Rattle.cl_types.specs.declared.fault.Fault.TheVariants.{Refused, NoMemory}
use Rattle.cl_values.specs.Tree.{Tree}
use Rattle.cl_maps.specs.Maps.{Map, empty, with_value}
use Rattle.cl_tokens.specs.Table.{HasRoom}
use Rattle.cl_tokens.specs.declared.refusal.TokenRefusal.{TokenRefusal}
use Rattle.cl_tokens.specs.Ledger.{Ledger, no_tokens}
use Rattle.cl_tokens.specs.Owners.{Owners}
use Rattle.cl_tokens.specs.Deeds.{undone as act_undone, HasGiver}
use Rattle.cl_events.specs.State.{State}
use Rattle.cl_events.specs.Acts.{Acted}
use Rattle.cl_tables.specs.declared.place.Place.{Place}
use Rattle.cl_tables.specs.declared.note.Note.{Note}
use Rattle.cl_tables.specs.declared.note.Note.TheVariants.{Variable, Entry, Stx, Fungible, Asset, FungibleDefined, NonFungibleDefined}
use Rattle.cl_tables.specs.Variables.{IsPlaceKey}
use Rattle.cl_tables.specs.Numbered.{by_place, value_at, but_last, ArePlaced}
use Rattle.cl_tables.specs.Spelled.{Each, IsSpot, IsSpelled}
use Rattle.cl_tables.specs.Codes.{state_code}

-- what the tables hold
pub record Held : Type 0 where
  pub variables : Map Tree
  pub entries : Map Tree
  pub fungibles : List (Place × Ledger)
  pub nonfungibles : List (Place × Owners)
  pub stx : Ledger

abbrev pub state_of : Held → State
state_of h = record {
  variables = h.variables;
  entries = h.entries;
  fungibles = by_place h.fungibles;
  nonfungibles = by_place h.nonfungibles;
  stx = h.stx;
  events = [];
  moves = [];
}

abbrev pub ledger_undone : ℕ → (Ledger → Ledger) → List (Place × Ledger) → List (Place × Ledger)
ledger_undone i f es = set_value_at es i (f (value_at (no_tokens None) es i))

abbrev pub owners_undone : ℕ → (Owners → Owners) → List (Place × Owners) → List (Place × Owners)
owners_undone i f es = set_value_at es i (f (value_at empty es i))

-- before the change of a note
abbrev pub undone : Note → Held → Held
undone (Variable key before) h = record h { variables = with_value key before h.variables }
undone (Entry key before) h = record h { entries = with_value key before h.entries }
undone (Stx act) h = record h { stx = act_undone act h.stx }
undone (Fungible i act) h = record h { fungibles = ledger_undone i (act_undone act) h.fungibles }
undone (Asset i asset owner) h = record h { nonfungibles = owners_undone i (with_value asset owner) h.nonfungibles }
undone FungibleDefined h = record h { fungibles = but_last h.fungibles }
undone NonFungibleDefined h = record h { nonfungibles = but_last h.nonfungibles }

-- before the changes of all notes, of which the last is undone first
abbrev pub gone_back : List Note → Held → Held
gone_back [] h = h
gone_back (n ∷ ns) h = undone n (gone_back ns h)

-- before each change, the oldest first
abbrev pub before : List Note → Held → List Held
before [] h = []
before (n ∷ ns) h = gone_back (n ∷ ns) h ∷ before ns h

-- what contracts see of tables with notes: the state, and the state before each change
pub record Past : Type 0 where
  pub state : State
  pub before : List State

abbrev pub past_of : List Note → Held → Past
past_of ns h = record { state = state_of h; before = map state_of (before ns h) }

abbrev pub past_code : Coded Past
past_code = code_by (State × List State) (coded× state_code (coded_list state_code)) (λ p. (p.state, p.before)) (λ q. record { state = q.0; before = q.1 }) (λ _. refl)

-- with one more change
abbrev pub changed_to : State → Past → Past
changed_to s p = record { state = s; before = p.before ++ p.state ∷ [] }

-- before the change of this number, or now
abbrev pub state_at : ℕ → Past → State
state_at i p = get_or p.before i p.state

abbrev pub cut_at : ℕ → Past → Past
cut_at i p = record { state = state_at i p; before = take i p.before }

-- ------------------------------------------------------------ room

-- the keys that have slots, of each table; of tokens by their numbers
pub record Rooms : Type 0 where
  pub variables : List (List ℕ)
  pub entries : List (List ℕ)
  pub fungibles : List (List (List ℕ))
  pub nonfungibles : List (List (List ℕ))
  pub stx : List (List ℕ)

abbrev pub room_at : List (List (List ℕ)) → ℕ → List (List ℕ)
room_at [] i = []
room_at (r ∷ rs) zero = r
room_at (r ∷ rs) (suc i) = room_at rs i

abbrev pub Keeps : List (List ℕ) → List (List ℕ) → Type 0
Keeps old new = (q : List ℕ) → HasRoom old q → HasRoom new q

-- how many tokens a change defines
abbrev pub fungibles_in : Note → ℕ
fungibles_in FungibleDefined = 1
fungibles_in n = 0

abbrev pub nonfungibles_in : Note → ℕ
nonfungibles_in NonFungibleDefined = 1
nonfungibles_in n = 0

abbrev pub all_fungibles : List Note → ℕ → ℕ
all_fungibles [] later = later
all_fungibles (n ∷ ns) later = fungibles_in n + all_fungibles ns later

abbrev pub all_nonfungibles : List Note → ℕ → ℕ
all_nonfungibles [] later = later
all_nonfungibles (n ∷ ns) later = nonfungibles_in n + all_nonfungibles ns later

-- a note's change is undone without memory, once so many tokens are taken away that were defined after it: its token is one of
-- the rest, and its keys have slots, and are those of a variable or an entry
abbrev pub IsReady : Rooms → ℕ → ℕ → Note → Type 0
IsReady r f n (Variable key before) = HasRoom r.variables key × IsPlaceKey key
IsReady r f n (Entry key before) = HasRoom r.entries key × IsSpot key
IsReady r f n (Stx act) = HasGiver r.stx act
IsReady r f n (Fungible i act) = (i + f < length r.fungibles) × HasGiver (room_at r.fungibles i) act
IsReady r f n (Asset i asset owner) = (i + n < length r.nonfungibles) × HasRoom (room_at r.nonfungibles i) asset
IsReady r f n FungibleDefined = f < length r.fungibles
IsReady r f n NonFungibleDefined = n < length r.nonfungibles

abbrev pub AreReady : Rooms → ℕ → ℕ → List Note → Type 0
AreReady r f n [] = Unit {0}
AreReady r f n (m ∷ ms) = IsReady r (all_fungibles ms f) (all_nonfungibles ms n) m × AreReady r f n ms

-- what is ready with f and n tokens defined later is so with g and m of them
pub record Serves (f n g m : ℕ) (old new : Rooms) : Type 0 where
  pub variables : Keeps old.variables new.variables
  pub entries : Keeps old.entries new.entries
  pub stx : Keeps old.stx new.stx
  pub fungibles : length old.fungibles + g ≤ length new.fungibles + f
  pub nonfungibles : length old.nonfungibles + m ≤ length new.nonfungibles + n
  pub holders : (i : ℕ) → i < length old.fungibles → i < length new.fungibles → Keeps (room_at old.fungibles i) (room_at new.fungibles i)
  pub assets : (i : ℕ) → i < length old.nonfungibles → i < length new.nonfungibles → Keeps (room_at old.nonfungibles i) (room_at new.nonfungibles i)

-- ------------------------------------------------------------ what holds of each state

pub record IsSound (h : Held) : Type 0 where
  pub variables : Each (λ key v. IsPlaceKey key) h.variables
  pub fungibles : ArePlaced h.fungibles
  pub nonfungibles : ArePlaced h.nonfungibles
  pub spelled : IsSpelled (state_of h)

abbrev pub AreSound : List Held → Type 0
AreSound [] = Unit {0}
AreSound (h ∷ hs) = IsSound h × AreSound hs

-- ------------------------------------------------------------ acts on tokens

-- what an act on tokens makes of a past: the state that it gives, or its refusal
abbrev pub ActsOnPast : Acted → Past → Result (Unit {0}) (Fault TokenRefusal) → Past → Type 0
ActsOnPast meant old (Ok _) new = (s : State) × (meant ≡ Some (Ok s)) × (new ≡ changed_to s old)
ActsOnPast meant old (Err (Refused refusal)) new = (meant ≡ Some (Err refusal)) × (new ≡ old)
ActsOnPast meant old (Err NoMemory) new = new ≡ old

-- and of a state
abbrev pub Gives : {A : Type 0} → Acted → Result A (Fault TokenRefusal) → State → Type 0
Gives meant (Ok _) new = meant ≡ Some (Ok new)
Gives meant (Err (Refused refusal)) new = meant ≡ Some (Err refusal)
Gives meant (Err NoMemory) new = Unit {0}

abbrev pub IsRefusedBy : {A B : Type 0} → Result B TokenRefusal → Result A (Fault TokenRefusal) → Type 0
IsRefusedBy meant (Ok _) = Unit {0}
IsRefusedBy meant (Err (Refused refusal)) = meant ≡ Err refusal
IsRefusedBy meant (Err NoMemory) = Unit {0}
