-- Claims as lines.
use Rattle.std.specs.Prelude.{ℕ, List, ◌++◌, codes, decimal}
use Rattle.hex.specs.Hex.{encode_lower}
use Rattle.cl_sexpr.specs.declared.sexpr.Span.{Span}
use Rattle.cl_values.specs.Tree.{Tree}
use Rattle.cl_values.specs.Wire.{wire}
use Rattle.cl_claims.specs.declared.spelled.ClaimLine.{ClaimLine}

-- the places of a node's bytes, the last of them not included
abbrev pub span_text : Span → List ℕ
span_text at = decimal at.start ++ (codes ".." ++ decimal at.end)

-- the number of an entry, the span of a node, and the wire form of the value that it gave
unfoldable pub claim_text : ℕ → Span → Tree → List ℕ
claim_text entry at v = decimal entry ++ (codes " " ++ (span_text at ++ (codes " " ++ encode_lower (wire v))))

abbrev pub claim_line : ℕ → Span → Tree → List ℕ
claim_line entry at v = claim_text entry at v ++ codes "\n"

abbrev pub line_text : ClaimLine → List ℕ
line_text c = claim_line c.entry c.span c.value
