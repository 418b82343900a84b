-- A file's own traces, written line by line, and its own report.
use Rattle.std.specs.Prelude.{◌≡◌, ℕ, ◌+◌, ◌<◌, ◌^◌, List, [], ◌∷◌, ◌++◌, length, map, Ok}
use Rattle.std.specs.List.{All, flat_map}
use Rattle.cl_shapes.specs.declared.function.CostFn.{CostFn}
use Rattle.cl_values.specs.Valid.{IsVal}
use Rattle.cl_meaning.specs.Trace.{Claim as Told}
use Rattle.cl_file.specs.Files.{FileSeen}
use Rattle.cl_tx.specs.declared.outcome.TxResult.{TxResult}
use Rattle.cl_tx.specs.Step.{schedule_of}
use Rattle.cl_report.specs.Lines.{report_from}
use Rattle.cl_claims.specs.declared.spelled.ClaimLine.{ClaimLine}
use Rattle.cl_claims.specs.Lines.{line_text}
use Rattle.cl_claims.specs.Parts.{IsSpan}
use Rattle.cl_audit_walk.specs.declared.cursor.Claim.{Claim}
use Rattle.cl_audit_results.specs.Audits.{FileTraced}
use Rattle.cl_audit_reply.specs.Grouped.{traces_in}
use Rattle.cl_audit_reply.specs.Verdicts.{IsAuditReply, reply_of}
use Rattle.cl_audit_reply.specs.declared.reply.Verdict.TheVariants.{Yes}

-- the line of a claim of the entry with this number
abbrev pub own_line : ℕ → Told → ClaimLine
own_line number t = record { entry = number; span = t.span; value = t.value }

-- the lines of the traces of entries, numbered from this on
abbrev pub own_lines : ℕ → List (List Told) → List ClaimLine
own_lines number [] = []
own_lines number (t ∷ ts) = map (own_line number) t ++ own_lines (number + 1) ts

-- as a file
abbrev pub own_text : List (List Told) → List ℕ
own_text told = flat_map line_text (own_lines 0 told)

-- places have 32 bits, and the value is within the limits
pub record IsSpelled (t : Told) : Type 0 where
  pub span : IsSpan t.span
  pub value : IsVal t.value

-- this reply is given to the own traces of a file and its own report
pub record SaysYes (table : List CostFn) (file : FileSeen) (results : List TxResult) (told : List (List Told)) : Type 0 where
  pub claims : List (List Claim)
  pub read : traces_in (length file.entries) (own_text told) ≡ Ok claims
  pub reply : IsAuditReply table file claims (report_from 0 file.entries results) (reply_of Yes)

-- The auditor says yes to a file's own traces and report, where the values of the traces are within the limits.
abbrev pub OwnIsYes : Type 0
OwnIsYes = (table : List CostFn) (file : FileSeen) (results : List TxResult) (told : List (List Told)) → length file.entries < 2 ^ 32 → FileTraced (schedule_of table file) file results told → All (All IsSpelled) told → SaysYes table file results told
