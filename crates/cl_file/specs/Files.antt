-- The transaction file.
use Rattle.std.specs.Prelude.{◌≡◌, ℕ, suc, ◌++◌, ◌^◌, nat_eq, nat_lt, nat_le, Bool, false, List, [], ◌∷◌, codes, Option, Some, None, is_some, option_and_then, Ok, Err, if◌then◌else◌}
use Rattle.std.specs.List.{list_any, sum_by}
use Rattle.std.specs.Option.{option_map_or}
use Rattle.std.specs.Map.{keys_of}
use Rattle.std.specs.Str.{chars}
use Rattle.serde_json.specs.Data.{Data, Items, no_items, item}
use Rattle.serde_json.specs.Find.{get, as_array, as_object}
use Rattle.cl_c32.specs.declared.principal.Principal.{Principal}
use Rattle.cl_json.specs.Json.{json_of}
use Rattle.cl_c32.specs.Principals.{same_principal}
use Rattle.cl_file.specs.Paths.{Read, and_then, said, each_from}
use Rattle.cl_file.specs.Objects.{Values, Texts, Kind, plain, needed, only}
use Rattle.cl_file.specs.Kinds.{whole, principal, an_amount}
use Rattle.cl_file.specs.Names.{names_of}
use Rattle.cl_costs.specs.Schedules.{Epoch}
use Rattle.cl_file.specs.Epochs.{next_epoch}
use Rattle.cl_file.specs.Entries.{entry_at}
use Rattle.cl_file.specs.declared.entry.Entry.{Entry}
use Rattle.cl_file.specs.declared.names.Object.TheVariants.{Holder, File, SecondFile}
use Rattle.cl_file.specs.declared.refusal.TxRefusal.TheVariants.{NotJson, BadValue, TooMany, GenesisTooBig, Version}

-- a transaction file
pub record FileSeen : Type 0 where
  pub genesis : List (Principal × ℕ)
  pub epochs : List Epoch
  pub entries : List Entry

-- the test, and where it fails the refusal
unfoldable pub tested : Bool → Read (Unit {0}) → Read (Unit {0})
tested b refused = if b then Ok tt else refused

-- ---- holders

abbrev pub holds : List (Principal × ℕ) → Principal → Bool
holds holders p = list_any (same_principal p) (keys_of holders)

-- behind those that were read, none stands twice
abbrev pub AreOnce : List (Principal × ℕ) → List (Principal × ℕ) → Type 0
AreOnce done [] = Unit {0}
AreOnce done (h ∷ hs) = (holds done h.0 ≡ false) × AreOnce (done ++ h ∷ []) hs

abbrev pub unless_held : List (Principal × ℕ) → Principal → Option Principal
unless_held holders p = if holds holders p then None else Some p

-- a principal that holds nothing yet
abbrev pub new_holder : List (Principal × ℕ) → Data → Option Principal
new_holder holders d = option_and_then (unless_held holders) (principal d)

-- a holder behind those that were read
unfoldable pub holder_at : Values → List (Principal × ℕ) → List ℕ → Data → Read (Principal × ℕ)
holder_at values done path d =
    and_then (only path (names_of Holder) d) (λ _.
    and_then (needed (plain (new_holder done)) values path (codes "principal") d) (λ p.
    and_then (needed an_amount values path (codes "stx") d) (λ n.
    Ok (p, n))))

-- ---- the file

abbrev pub count : Items → ℕ
count no_items = 0
count (item d ds) = suc (count ds)

abbrev pub has_version : ℕ → Data → Bool
has_version version d = option_map_or (λ n. nat_eq n version) (option_and_then whole (get (codes "version") d)) false

-- an array's items
abbrev pub items : Kind Items
items values path d = said path (as_array d)

abbrev pub total : List (Principal × ℕ) → ℕ
total holders = sum_by (λ h. h.1) holders

-- at most 64 epochs
unfoldable pub epochs_of : Values → Items → Read (List Epoch)
epochs_of values items =
    and_then (tested (nat_le (count items) 64) (Err (BadValue (chars (codes "/epochs"))))) (λ _.
    each_from (next_epoch values) (codes "/epochs") [] 0 items)

-- at most 100,000 entries
unfoldable pub entries_of : Values → Items → Read (List Entry)
entries_of values items =
    and_then (tested (nat_le (count items) 100000) (Err TooMany)) (λ _.
    each_from (entry_at values) (codes "/entries") [] 0 items)

-- The top members were read: the holders, their sum, the epochs, and the entries.
unfoldable pub file_by : Values → Items → Items → Items → Read FileSeen
file_by values holders epochs items =
    and_then (each_from (holder_at values) (codes "/genesis") [] 0 holders) (λ genesis.
    and_then (tested (nat_lt (total genesis) (2 ^ 128)) (Err GenesisTooBig)) (λ _.
    and_then (epochs_of values epochs) (λ begun.
    and_then (entries_of values items) (λ entries.
    Ok (record { genesis = genesis; epochs = begun; entries = entries })))))

-- the top members of version 1, which has no epochs, and what they hold
unfoldable pub members_of : Values → Data → Read FileSeen
members_of values d =
    and_then (only [] (names_of File) d) (λ _.
    and_then (needed items values [] (codes "genesis") d) (λ holders.
    and_then (needed items values [] (codes "entries") d) (λ entries.
    file_by values holders no_items entries)))

-- those of version 2
unfoldable pub second_members_of : Values → Data → Read FileSeen
second_members_of values d =
    and_then (only [] (names_of SecondFile) d) (λ _.
    and_then (needed items values [] (codes "genesis") d) (λ holders.
    and_then (needed items values [] (codes "epochs") d) (λ epochs.
    and_then (needed items values [] (codes "entries") d) (λ entries.
    file_by values holders epochs entries))))

abbrev pub is_object : Data → Bool
is_object d = is_some (as_object d)

unfoldable pub file_in : Values → Data → Read FileSeen
file_in values d =
    if is_object d then
    (if has_version 1 d then members_of values d
    else (if has_version 2 d then second_members_of values d else Err Version))
    else Err NotJson

abbrev pub json_file : Values → Option Data → Read FileSeen
json_file values json = option_map_or (file_in values) json (Err NotJson)

-- What the bytes of a transaction file read as, by the values of texts: the file, or its first fault.
unfoldable pub file_of : Values → List ℕ → Read FileSeen
file_of values bytes = json_file values (json_of bytes)

-- What the bytes of a transaction file read as: the file, or its first fault. The values of texts are those that cl_text defines.
abbrev pub FileReads : List ℕ → Read FileSeen → Type 0
FileReads bytes r = (v : Texts) → file_of v.of bytes ≡ r
