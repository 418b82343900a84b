-- The laws of the reply of `audit`.
use Rattle.std.specs.Prelude.{◌≡◌, ℕ, List, length}
use Rattle.cl_shapes.specs.declared.function.CostFn.{CostFn}
use Rattle.cl_file.specs.Files.{FileSeen}
use Rattle.cl_node_sound.specs.Sound.{FileHasParts}
use Rattle.cl_entries.specs.declared.status.Reply.{Reply}
use Rattle.cl_audit_walk.specs.declared.cursor.Claim.{Claim}
use Rattle.cl_audit_reply.specs.Verdicts.{IsAuditReply}

-- a file, claims and a report have one reply
abbrev pub OneAuditReply : Type 0
OneAuditReply = (table : List CostFn) (file : FileSeen) (claims : List (List Claim)) (report : List ℕ) (a b : Reply) → IsAuditReply table file claims report a → IsAuditReply table file claims report b → a ≡ b

-- each file whose parts are within the limits has one, whatever its claims and its report
abbrev pub EachHasAuditReply : Type 0
EachHasAuditReply = (table : List CostFn) (file : FileSeen) (claims : List (List Claim)) (report : List ℕ) → FileHasParts file → length claims ≡ length file.entries → (reply : Reply) × IsAuditReply table file claims report reply
