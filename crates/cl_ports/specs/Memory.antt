-- The files and the sink that are kept in memory, as contracts see them, and what each call of them does.
use Rattle.std.specs.Prelude.{◌≡◌, ◌+◌, ◌-◌, ℕ, ⊤, Bool, List, [], ◌∷◌, length, map, Option, Some, None, Result, Ok, Err, Vec, string_bytes, nat_lt, nat_le, if◌then◌else◌, ◌==◌}
use Rattle.std.specs.List.{list_any}
use Rattle.std.specs.declared.alloc.Global.{Global}
use Rattle.std.specs.declared.string.String.{String}
use Rattle.cl_ports.specs.Growth.{next_count}
use Rattle.cl_ports.specs.Files.{Held, content_of}
use Rattle.cl_ports.specs.declared.TheConstants.{MAX_FILE_BYTES}
use Rattle.cl_ports.specs.declared.refusal.ReadRefusal.{ReadRefusal}
use Rattle.cl_ports.specs.declared.refusal.ReadRefusal.TheVariants.{Failed, TooLong, NoMemory}

-- `MemoryFiles`: what is held, the calls that are to fail, and what has happened
pub record FilesState : Type 0 where
  pub files : Held
  pub fails : List ℕ
  pub calls : ℕ
  pub faults : ℕ
  pub asked : List (List ℕ)

-- `MemorySink`: its bytes, how many it has room for, the calls that are to fail, and what has happened
pub record SinkState : Type 0 where
  pub bytes : List ℕ
  pub room : ℕ
  pub fails : List ℕ
  pub calls : ℕ
  pub faults : ℕ

-- names and bytes as the entries of a `Vec` have them
abbrev pub held_of : List (String Global × Vec ℕ Global) → Held
held_of entries = map (λ entry. (string_bytes entry.0, entry.1.items)) entries

-- the call with this number is to fail
abbrev pub is_listed : List ℕ → ℕ → Bool
is_listed fails call = list_any (λ n. n == call) fails

-- the bytes that are found under a name by the call with this number
abbrev pub content_at : Held → List ℕ → ℕ → List ℕ → Option (List ℕ)
content_at files fails call name = if is_listed fails call then None else content_of files name

-- what a read gives for the bytes that were found
abbrev pub given_of : Option (List ℕ) → Result (List ℕ) ReadRefusal
given_of None = Err Failed
given_of (Some bytes) = if nat_lt MAX_FILE_BYTES (length bytes) then Err (TooLong (MAX_FILE_BYTES + 1)) else Ok bytes

-- what a read gives, want of memory apart
abbrev pub read_of : FilesState → List ℕ → Result (List ℕ) ReadRefusal
read_of state name = given_of (content_at state.files state.fails (next_count state.calls) name)

-- this was given, or memory ran out
abbrev pub GivesUnlessNoMemory : Result (List ℕ) ReadRefusal → Result (Vec ℕ Global) ReadRefusal → Type 0
GivesUnlessNoMemory expected (Ok bytes) = expected ≡ Ok bytes.items
GivesUnlessNoMemory expected (Err NoMemory) = ⊤
GivesUnlessNoMemory expected (Err refusal) = expected ≡ Err refusal

-- the count of faults after a read
abbrev pub faults_after_read : {T : Type 0} → ℕ → Result T ReadRefusal → ℕ
faults_after_read faults (Err Failed) = next_count faults
faults_after_read faults r = faults

-- how many bytes the next write that is counted has place for
abbrev pub space_of : SinkState → ℕ
space_of state = if is_listed state.fails (next_count state.calls) then 0 else state.room - length state.bytes

-- a write takes the whole piece
abbrev pub is_whole : SinkState → List ℕ → Bool
is_whole state piece = nat_le (length piece) (space_of state)

-- the count of calls after a write; one of an empty piece is no call
abbrev pub calls_after_write : ℕ → List ℕ → ℕ
calls_after_write calls [] = calls
calls_after_write calls (b ∷ piece) = next_count calls
