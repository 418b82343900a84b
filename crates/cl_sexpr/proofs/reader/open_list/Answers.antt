use Rattle.std.proofs.Common.{rules}
use Rattle.cl_sexpr.proofs.reader.open_list.Goals as goal

pub returns : goal.returns
returns c = search rules
