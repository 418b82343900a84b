use Rattle.std.proofs.Common.{arith}
use Rattle.cl_file.proofs.FiveNumbers.{few_parts, many_parts}
use Rattle.cl_file.proofs.spelling.five_in.Goals as goal

pub returns-in_default : goal.returns-in_default
returns-in_default c = few_parts _ (omega (arith, c.in_default.len_below))

pub returns-in_default-2 : goal.returns-in_default-2
returns-in_default-2 c = many_parts _ (omega (arith, c.in_default.len_at_least))
