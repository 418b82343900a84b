-- Spots of a state: when two states agree there, and when a state is changed there alone.
use Rattle.std.specs.Prelude.{◌≡◌, List, ℕ, ◌++◌}
use Rattle.cl_maps.specs.Maps.{get}
use Rattle.cl_events.specs.State.{State}
use Rattle.cl_tables.specs.declared.place.Place.{Place}
use Rattle.cl_tables.specs.declared.spot.Spot.{Spot}
use Rattle.cl_tables.specs.declared.spot.Spot.TheVariants.{Variable, MapOf, Token, Stx}
use Rattle.cl_tables.specs.Variables.{IsPlace, key_of}
pub use Rattle.cl_tables.specs.Spots.{begins, is_variable_at, is_entry_at, is_token_at, is_stx}
pub use Rattle.cl_tables.specs.Spots.{where_keys, put_all, joined, grafted}

-- a spot with a principal and a name
abbrev pub IsSpot : Spot → Type 0
IsSpot (Variable at) = IsPlace at
IsSpot (MapOf at) = IsPlace at
IsSpot (Token at) = IsPlace at
IsSpot Stx = Unit {0}

-- ---- states that agree

-- what two states have at a spot is the same: of a map, under each key that begins with its place;
-- of a token, all that is kept of it
abbrev pub AgreeAt : State → State → Spot → Type 0
AgreeAt s t (Variable at) = get (key_of at) s.variables ≡ get (key_of at) t.variables
AgreeAt s t (MapOf at) =
    (rest : List ℕ) → get (key_of at ++ rest) s.entries ≡ get (key_of at ++ rest) t.entries
AgreeAt s t (Token at) =
    (get (key_of at) s.fungibles ≡ get (key_of at) t.fungibles)
    × (get (key_of at) s.nonfungibles ≡ get (key_of at) t.nonfungibles)
AgreeAt s t Stx = s.stx ≡ t.stx

-- and so it is at each spot of a set
abbrev pub Agree : (Spot → Type 0) → State → State → Type 0
Agree T s t = (x : Spot) → T x → AgreeAt s t x

-- ---- changes at spots alone

-- no spot of a set has the variable, the entry or the token of a key
abbrev pub HasNoVariable : (Spot → Type 0) → List ℕ → Type 0
HasNoVariable T key = (at : Place) → T (Variable at) → key_of at ≡ key → ⊥

abbrev pub HasNoEntry : (Spot → Type 0) → List ℕ → Type 0
HasNoEntry T key = (at : Place) → T (MapOf at) → (rest : List ℕ) → key_of at ++ rest ≡ key → ⊥

abbrev pub HasNoToken : (Spot → Type 0) → List ℕ → Type 0
HasNoToken T key = (at : Place) → T (Token at) → key_of at ≡ key → ⊥

-- of all that is kept, only what is at the spots of a set is changed; events and moves are free
pub record IsChangedAt (T : Spot → Type 0) (before after : State) : Type 0 where
  pub variables :
      (key : List ℕ) → HasNoVariable T key → get key after.variables ≡ get key before.variables
  pub entries :
      (key : List ℕ) → HasNoEntry T key → get key after.entries ≡ get key before.entries
  pub fungibles :
      (key : List ℕ) → HasNoToken T key → get key after.fungibles ≡ get key before.fungibles
  pub nonfungibles :
      (key : List ℕ) → HasNoToken T key → get key after.nonfungibles ≡ get key before.nonfungibles
  pub stx : (T Stx → ⊥) → after.stx ≡ before.stx
