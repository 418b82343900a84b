use Rattle.std.proofs.Common.{ℕ, ◌<◌, get_or}
use Rattle.cl_file.specs.declared.entry.Entry.{Entry}
use Rattle.cl_node_sound.specs.Sound.{HasParts}
use Rattle.cl_audit_reply.proofs.reply.file_has_parts.Given as goal

abbrev pub invariant-loop-entry : goal.invariant-loop-entry
invariant-loop-entry l = (k : ℕ) (d : Entry) → k < l.entry-index → HasParts (get_or l.entry-items k d)
