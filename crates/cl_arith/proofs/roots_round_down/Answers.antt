use Rattle.cl_arith.proofs.Greatest.{square_root_is, log2_is}
use Rattle.cl_arith.proofs.roots_round_down.Goals as goal

pub returns-clause-square_root : goal.returns-clause-square_root
returns-clause-square_root c = square_root_is

pub returns-clause-log2 : goal.returns-clause-log2
returns-clause-log2 c = log2_is
