use Rattle.cl_claims.proofs.LineParts.{no_wire, slice_bytes}
use Rattle.cl_claims.proofs.spelled.value_with.Goals as goal

pub returns-in-Ok-clause-some : goal.returns-in-Ok-clause-some
returns-in-Ok-clause-some c = c.reads_only_spellings.ensures.spelling c.args.bytes.now c.in-Ok.value (slice_bytes c.args.bytes.now c.type_inv.bytes) c.in-Ok.ensures.found

pub returns-in-Err-Refused-clause-none : goal.returns-in-Err-Refused-clause-none
returns-in-Err-Refused-clause-none c = λ _. no_wire c.read_back.ensures c.args.bytes.now c.in-Err-Refused.field-0-0 (rw c.in-Err-Refused.field-0-is at c.in-Err-Refused.ensures.broken)
