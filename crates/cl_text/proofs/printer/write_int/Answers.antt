use Rattle.std.proofs.Common.{rules}
use Rattle.cl_text.proofs.printer.write_int.Goals as goal

pub returns : goal.returns
returns c = search rules
