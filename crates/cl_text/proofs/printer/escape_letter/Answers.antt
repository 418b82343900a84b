use Rattle.std.proofs.Common.{rules}
use Rattle.cl_text.proofs.printer.escape_letter.Goals as goal

pub returns-in-34 : goal.returns-in-34
returns-in-34 c = search rules
