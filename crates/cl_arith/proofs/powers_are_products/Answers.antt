use Rattle.cl_arith.proofs.Laws.{int_pow-zero, int_pow-suc}
use Rattle.cl_arith.proofs.powers_are_products.Goals as goal

pub returns-clause-none : goal.returns-clause-none
returns-clause-none c = int_pow-zero

pub returns-clause-one_more : goal.returns-clause-one_more
returns-clause-one_more c = int_pow-suc
