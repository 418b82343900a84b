-- What a text spells, line by line.
use Rattle.std.specs.Prelude.{ℕ, ◌+◌, ◌==◌, ◌&&◌, nat_le, nat_lt, List, [], ◌∷◌, Option, Some, None, option_map, option_and_then, Result, Ok, Err, decimal, if◌then◌else◌}
use Rattle.std.specs.Result.{result_ok}
use Rattle.std.specs.Str.{bytes_eq}
use Rattle.hex.specs.Hex.{encode_lower}
use Rattle.cl_sexpr.specs.Leaf.{are_digits, value_of}
use Rattle.cl_sexpr.specs.declared.sexpr.Span.{Span}
use Rattle.cl_values.specs.Reading.{decoded}
use Rattle.cl_values.specs.Tree.{Tree}
use Rattle.cl_claims.specs.Parts.{hex_bytes, split_at}
use Rattle.cl_claims.specs.declared.spelled.ClaimLine.{ClaimLine}

-- ---- a line, without its line feed

-- the number of 32 bits that digits without leading zeros spell
abbrev pub number_in : List ℕ → Option ℕ
number_in text =
    if are_digits text && (nat_le (value_of text) 4294967295 && bytes_eq (decimal (value_of text)) text) then Some (value_of text) else None

-- the number behind a dot
abbrev pub end_in : List ℕ → Option ℕ
end_in [] = None
end_in (b ∷ digits) = if b == 46 then number_in digits else None

abbrev pub span_with : Option ℕ → Option ℕ → Option Span
span_with start end = option_and_then (λ s. option_map (λ e. record { start = s; end = e }) end) start

-- two numbers with two dots between them
abbrev pub span_in : List ℕ → Option Span
span_in text = option_and_then (λ (p : List ℕ × List ℕ). span_with (number_in p.0) (end_in p.1)) (split_at 46 text)

-- the value whose wire form digits in lower case spell
abbrev pub value_in : List ℕ → Option Tree
value_in text = option_and_then (λ bytes. if bytes_eq (encode_lower bytes) text then result_ok (decoded bytes) else None) (hex_bytes text)

abbrev pub claim_with : Option ℕ → Option Span → Option Tree → Option ClaimLine
claim_with entry span value =
    option_and_then (λ e. option_and_then (λ s. option_map (λ v. record { entry = e; span = s; value = v }) value) span) entry

-- the claim that three parts spell, with one blank between each two
abbrev pub claim_in : List ℕ → Option ClaimLine
claim_in line =
    option_and_then (λ (p : List ℕ × List ℕ). option_and_then (λ (q : List ℕ × List ℕ). claim_with (number_in p.0) (span_in q.0) (value_in q.1)) (split_at 32 p.1)) (split_at 32 line)

-- ---- lines

abbrev pub longer : ℕ → List (List ℕ) × List ℕ → List (List ℕ) × List ℕ
longer b ([], rest) = ([], b ∷ rest)
longer b (line ∷ lines, rest) = ((b ∷ line) ∷ lines, rest)

-- the lines of a text that a line feed ends, and what stands behind the last of them
abbrev pub lines_in : List ℕ → List (List ℕ) × List ℕ
lines_in [] = ([], [])
lines_in (b ∷ bytes) = if b == 10 then ([] ∷ (lines_in bytes).0, (lines_in bytes).1) else longer b (lines_in bytes)

-- ---- a trace file

-- claims, or the number of the first line that isn't in the format
abbrev pub Claims : Type 0
Claims = Result (List ClaimLine) ℕ

abbrev pub before : ClaimLine → Claims → Claims
before c (Ok cs) = Ok (c ∷ cs)
before c (Err n) = Err (n + 1)

-- a claim of an entry from a number on and below another
abbrev pub of_entry : ℕ → ℕ → ClaimLine → Option ClaimLine
of_entry least entries c = if nat_le least c.entry && nat_lt c.entry entries then Some c else None

abbrev pub claims_with : Option ClaimLine → (ClaimLine → Claims) → Claims
claims_with None behind = Err 0
claims_with (Some c) behind = before c (behind c)

abbrev pub ended : List ℕ → Claims
ended [] = Ok []
ended (b ∷ bytes) = Err 0

-- a claim a line, and nothing behind the last; the numbers of their entries never fall
abbrev pub claims_from : ℕ → ℕ → List (List ℕ) → List ℕ → Claims
claims_from least entries [] rest = ended rest
claims_from least entries (line ∷ lines) rest = claims_with (option_and_then (of_entry least entries) (claim_in line)) (λ c. claims_from c.entry entries lines rest)

-- those of a text, of entries from a number on
abbrev pub claims_of : ℕ → ℕ → List ℕ → Claims
claims_of least entries text = claims_from least entries (lines_in text).0 (lines_in text).1

-- those of a trace file of so many entries
abbrev pub claims_in : ℕ → List ℕ → Claims
claims_in entries text = claims_of 0 entries text
