-- The lines of a trace.
use Rattle.std.specs.Prelude.{ℕ, List}
use Rattle.std.specs.List.{flat_map}
use Rattle.cl_sexpr.specs.declared.sexpr.Span.{Span}
use Rattle.cl_values.specs.Tree.{Tree}
use Rattle.cl_audit_walk.specs.declared.cursor.Claim.{Claim}
use Rattle.cl_claims.specs.Lines.{claim_line}
use Rattle.cl_engine.specs.Traces.{Trace}

abbrev pub told_line : ℕ → Span × Tree → List ℕ
told_line number c = claim_line number c.0 c.1

-- a line for each claim of the trace of the entry with this number
abbrev pub trace_text : ℕ → Trace → List ℕ
trace_text number trace = flat_map (told_line number) trace

-- the line of a claim of that entry
abbrev pub line_of : ℕ → Claim → List ℕ
line_of number c = claim_line number c.span c.value
