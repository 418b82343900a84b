-- A trace file: lines, one after another.
use Rattle.std.specs.Prelude.{◌≡◌, ◌≢◌, ◌<◌, ◌≤◌, ◌^◌, ℕ, List, [], ◌∷◌, ◌++◌, length}
use Rattle.std.specs.List.{flat_map}
use Rattle.cl_sexpr.specs.declared.sexpr.Span.{Span}
use Rattle.cl_values.specs.Tree.{Tree}
use Rattle.cl_values.specs.Valid.{IsVal}
use Rattle.cl_claims.specs.declared.spelled.ClaimLine.{ClaimLine}
use Rattle.cl_claims.specs.Lines.{claim_line, line_text}
use Rattle.cl_claims.specs.Parts.{IsSpan}

-- the numbers of the entries never fall, from a number on, and each is below that of all entries
abbrev pub Rise : ℕ → ℕ → List ClaimLine → Type 0
Rise least entries [] = Unit {0}
Rise least entries (c ∷ cs) = (least ≤ c.entry) × (c.entry < entries) × Rise c.entry entries cs

-- the entry of the last line, or else this number
abbrev pub last_entry : ℕ → List ClaimLine → ℕ
last_entry least [] = least
last_entry least (c ∷ cs) = last_entry c.entry cs

-- all lines of a file
pub record AreLines (entries : ℕ) (lines : List ClaimLine) (text : List ℕ) : Type 0 where
  pub are : text ≡ flat_map line_text lines
  pub rise : Rise 0 entries lines

-- a text doesn't begin with a line of an entry from this number on
abbrev pub IsBadHere : ℕ → ℕ → List ℕ → Type 0
IsBadHere least entries text =
    (entry : ℕ) (at : Span) (v : Tree) (behind : List ℕ) → least ≤ entry → entry < entries → entry < 2 ^ 32 → IsSpan at → IsVal v → text ≡ claim_line entry at v ++ behind → ⊥

-- so many lines are in the format, and there is more, which doesn't begin with one that may follow
pub record IsFirstBad (entries : ℕ) (text : List ℕ) (count : ℕ) : Type 0 where
  pub lines : List ClaimLine
  pub counted : length lines ≡ count
  pub rise : Rise 0 entries lines
  pub rest : List ℕ
  pub are : text ≡ flat_map line_text lines ++ rest
  pub more : rest ≢ []
  pub bad : IsBadHere (last_entry 0 lines) entries rest
