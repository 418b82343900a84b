use Rattle.cl_file.proofs.Literals.{refused_text}
use Rattle.cl_file.proofs.literal.text_value.Goals as goal

pub returns-in-Ok : goal.returns-in-Ok
returns-in-Ok c v = v.right _ _ c.in-Ok.ensures.found

pub returns-in-Err-Refused : goal.returns-in-Err-Refused
returns-in-Err-Refused c v = refused_text v _ _ _ c.in-Err-Refused.field-0-is c.in-Err-Refused.ensures.broken
