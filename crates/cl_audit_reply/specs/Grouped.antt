-- A trace file: the claims of each entry.
use Rattle.std.specs.Prelude.{◌≡◌, ℕ, zero, suc, ◌+◌, ◌<◌, ◌^◌, nat_eq, List, [], ◌∷◌, ◌++◌, length, get_or, set, filter_map, if◌then◌else◌, Option, Some, None, Result, Ok, Err}
use Rattle.std.specs.List.{All}
use Rattle.cl_file.specs.Files.{FileSeen}
use Rattle.cl_claims.specs.declared.spelled.ClaimLine.{ClaimLine}
use Rattle.cl_claims.specs.Files.{AreLines}
use Rattle.cl_claims.specs.Parsed.{Claims, claims_in}
use Rattle.cl_audit_walk.specs.declared.cursor.Claim.{Claim}

abbrev pub claim_of : ClaimLine → Claim
claim_of line = record { span = line.span; value = line.value }

-- the claim of a line, where it is of the entry with this number
abbrev pub claim_at : ℕ → ClaimLine → Option Claim
claim_at number line = if nat_eq line.entry number then Some (claim_of line) else None

abbrev pub grouped_from : List ClaimLine → ℕ → ℕ → List (List Claim)
grouped_from lines number zero = []
grouped_from lines number (suc count) = filter_map (claim_at number) lines ∷ grouped_from lines (number + 1) count

-- the claims of each of so many entries, in the order of the lines
abbrev pub grouped : List ClaimLine → ℕ → List (List Claim)
grouped lines count = grouped_from lines 0 count

-- claims by their entries, with one more behind those of its own
abbrev pub put : List (List Claim) → ClaimLine → List (List Claim)
put claims line = set claims line.entry (get_or claims line.entry [] ++ claim_of line ∷ [])

abbrev pub grouped_result : ℕ → Claims → Result (List (List Claim)) ℕ
grouped_result entries (Ok lines) = Ok (grouped lines entries)
grouped_result entries (Err line) = Err line

-- the claims of each entry of a trace file, or the number of the first line that isn't in the format, counted from 0
abbrev pub traces_in : ℕ → List ℕ → Result (List (List Claim)) ℕ
traces_in entries text = grouped_result entries (claims_in entries text)

-- they are those of lines, whose entries never fall
pub record AreTraces (entries : ℕ) (text : List ℕ) (claims : List (List Claim)) : Type 0 where
  pub lines : List ClaimLine
  pub are_lines : AreLines entries lines text
  pub are : claims ≡ grouped lines entries

-- there are as many traces as entries, each of fewer than 2^32 claims
pub record AreForEntries (file : FileSeen) (claims : List (List Claim)) : Type 0 where
  pub count : length claims ≡ length file.entries
  pub few : All (λ c. length c < 2 ^ 32) claims
