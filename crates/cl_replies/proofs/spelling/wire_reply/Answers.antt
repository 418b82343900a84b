use Rattle.std.proofs.Common.{◌∙◌}
use Rattle.cl_text.specs.Parsed.{Stands, outcome_of}
use Rattle.cl_replies.proofs.Spellings.{wire_of_outcome, no_value_on_wire}
use Rattle.cl_replies.proofs.spelling.wire_reply.Goals as goal

pub returns-in-Ok : goal.returns-in-Ok
returns-in-Ok c =
    wire_of_outcome c.wire_line.result c.args.word.now (Stands c.in-Ok.value) c.in-Ok.ensures.found c.wire_line.ensures

pub returns-in_ok-no_value_reply-in-Err-Refused : goal.returns-in_ok-no_value_reply-in-Err-Refused
returns-in_ok-no_value_reply-in-Err-Refused c =
    (outcome_of c.in-Err-Refused.refusal, rw c.in-Err-Refused.field-0-is at c.in-Err-Refused.ensures.broken, c.in_ok-no_value_reply-in-Err-Refused.ensures ∙ no_value_on_wire c.in-Err-Refused.refusal)
