-- Writes to a place that is noted already: the earlier note alone undoes both.
use Rattle.std.specs.Prelude.{ℕ, ◌+◌, take, drop, ◌≡◌, ◌⊎◌, ◌≤◌, ◌<◌, Bool, true, false, cond, List, [], ◌∷◌, ◌++◌, length}
use Rattle.std.proofs.Math.ListN.{get_or}
use Rattle.cl_tokens.specs.Table.{is_key}
use Rattle.cl_events.specs.State.{State}
use Rattle.cl_tables.specs.declared.note.Note.{Note}
use Rattle.cl_tables.specs.declared.note.Note.TheVariants.{Variable, Entry, FungibleDefined}
use Rattle.cl_tables.specs.Notes.{Past, state_at}

abbrev pub is_variable : List ℕ → Note → Bool
is_variable later (Variable key b) = is_key key later
is_variable later n = false

abbrev pub is_entry : List ℕ → Note → Bool
is_entry later (Entry key b) = is_key key later
is_entry later n = false

-- both are writes to one place
abbrev pub covers : Note → Note → Bool
covers n (Variable later c) = is_variable later n
covers n (Entry later c) = is_entry later n
covers n later = false

-- among the notes from this number on there is one on the place of a later note
pub record IsCovered (floor : ℕ) (later : Note) (notes : List Note) : Type 0 where
  pub number : ℕ
  pub from : floor ≤ number
  pub within : number < length notes
  pub same : covers (get_or notes number later) later ≡ true

-- a note is added, unless it is covered
abbrev pub IsNoted : Bool → ℕ → Note → List Note → List Note → Type 0
IsNoted true floor n old new = (new ≡ old) × IsCovered floor n old
IsNoted false floor n old new = new ≡ old ++ n ∷ []

-- of notes that follow others those are let go, from the first on, that earlier ones from a number on cover, or some of these
abbrev pub Thins : ℕ → List Note → List Note → List Note → Type 0
Thins floor notes [] new = new ≡ notes
Thins floor notes (n ∷ rest) new =
    Thins floor (notes ++ n ∷ []) rest new ⊎ (IsCovered floor n notes × Thins floor notes rest new)

abbrev pub IsThinned : ℕ → List Note → List Note → Type 0
IsThinned floor old new = (high : ℕ) × Thins floor (take high old) (drop high old) new

-- of notes the first so many are kept, and those up to the next one are free. It is covered, or it stands behind those kept
abbrev pub IsNext : Bool → ℕ → ℕ → ℕ → List Note → List Note → Type 0
IsNext true floor kept next old new =
    (new ≡ old) × IsCovered floor (get_or old next FungibleDefined) (take kept old)
IsNext false floor kept next old new =
    (take (kept + 1) new ≡ take kept old ++ get_or old next FungibleDefined ∷ [])
    × (drop (next + 1) new ≡ drop (next + 1) old)

-- and so many are kept then
abbrev pub KeepsNext : ℕ → ℕ → ℕ → List Note → List Note → ℕ → Type 0
KeepsNext floor kept next old new count =
    (covered : Bool) × (count ≡ cond covered kept (kept + 1)) × IsNext covered floor kept next old new

-- a state in place of the present one, before which stand the same states up to this number
pub record Writes (floor : ℕ) (s : State) (old new : Past) : Type 0 where
  pub state : new.state ≡ s
  pub below : floor ≤ length old.before → (i : ℕ) → i ≤ floor → state_at i new ≡ state_at i old
  pub reach : floor ≤ length old.before → floor ≤ length new.before
