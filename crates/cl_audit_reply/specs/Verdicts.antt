-- What `audit` says of traces and a report.
use Rattle.std.specs.Prelude.{◌≡◌, ℕ, suc, nat_eq, List, [], ◌∷◌, ◌++◌, codes, decimal, option_map, if◌then◌else◌, Option, Some, None}
use Rattle.cl_shapes.specs.declared.function.CostFn.{CostFn}
use Rattle.cl_meaning.specs.Trace.{Claim as Told}
use Rattle.cl_file.specs.Files.{FileSeen}
use Rattle.cl_tx.specs.declared.outcome.TxResult.{TxResult}
use Rattle.cl_tx.specs.Step.{schedule_of}
use Rattle.cl_report.specs.Lines.{report_from}
use Rattle.cl_entries.specs.declared.status.Reply.{Reply}
use Rattle.cl_entries.specs.declared.status.Status.{Status}
use Rattle.cl_entries.specs.declared.status.Status.TheVariants.{Done, Refused}
use Rattle.cl_audit_walk.specs.declared.cursor.Claim.{Claim}
use Rattle.cl_audit_results.specs.Audits.{AllAgree, ClaimDiffers, FileTraced, FirstAt}
use Rattle.cl_audit_reply.specs.declared.reply.Verdict.{Verdict}
use Rattle.cl_audit_reply.specs.declared.reply.Verdict.TheVariants.{Yes, NoClaim, NoReport}

-- ---- texts

-- the first place at which a text isn't the beginning of another
abbrev pub prefix_apart : List ℕ → List ℕ → Option ℕ
prefix_apart [] ys = None
prefix_apart (x ∷ xs) [] = Some 0
prefix_apart (x ∷ xs) (y ∷ ys) = if nat_eq x y then option_map suc (prefix_apart xs ys) else Some 0

-- the first place at which two texts differ, or the shorter length
abbrev pub first_apart : List ℕ → List ℕ → Option ℕ
first_apart [] [] = None
first_apart [] (y ∷ ys) = Some 0
first_apart (x ∷ xs) [] = Some 0
first_apart (x ∷ xs) (y ∷ ys) = if nat_eq x y then option_map suc (first_apart xs ys) else Some 0

-- ---- what is said

-- the claims are the traces of the file, and its report and a text differ there first
pub record AreThose (table : List CostFn) (file : FileSeen) (claims : List (List Claim)) (report : List ℕ) (apart : Option ℕ) : Type 0 where
  pub results : List TxResult
  pub told : List (List Told)
  pub traced : FileTraced (schedule_of table file) file results told
  pub agree : AllAgree told claims
  pub compared : first_apart (report_from 0 file.entries results) report ≡ apart

-- the claims and the traces of the file differ there first
pub record DifferAt (table : List CostFn) (file : FileSeen) (claims : List (List Claim)) (entry claim : ℕ) : Type 0 where
  pub results : List TxResult
  pub told : List (List Told)
  pub traced : FileTraced (schedule_of table file) file results told
  pub first : FirstAt (ClaimDiffers claim) results told results claims entry

-- yes where claims and report are those of the file; else where the claims differ first, or where they don't the report
abbrev pub IsVerdict : List CostFn → FileSeen → List (List Claim) → List ℕ → Verdict → Type 0
IsVerdict table file claims report Yes = AreThose table file claims report None
IsVerdict table file claims report (NoReport at) = AreThose table file claims report (Some at)
IsVerdict table file claims report (NoClaim entry claim) = DifferAt table file claims entry claim

-- what is said of a report, where the claims are the traces of the file
abbrev pub report_verdict : Option ℕ → Verdict
report_verdict None = Yes
report_verdict (Some at) = NoReport at

abbrev pub verdict_text : Verdict → List ℕ
verdict_text Yes = codes "yes\n"
verdict_text (NoClaim entry claim) = codes "no claim " ++ (decimal entry ++ (codes " " ++ (decimal claim ++ codes "\n")))
verdict_text (NoReport at) = codes "no report " ++ (decimal at ++ codes "\n")

-- both answers of no are refusals
abbrev pub status_of : Verdict → Status
status_of Yes = Done
status_of (NoClaim entry claim) = Refused
status_of (NoReport at) = Refused

abbrev pub reply_of : Verdict → Reply
reply_of verdict = record { text = verdict_text verdict; status = status_of verdict }

-- the reply says what is so
pub record IsAuditReply (table : List CostFn) (file : FileSeen) (claims : List (List Claim)) (report : List ℕ) (reply : Reply) : Type 0 where
  pub verdict : Verdict
  pub is_verdict : IsVerdict table file claims report verdict
  pub is : reply ≡ reply_of verdict
