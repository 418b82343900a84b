use Rattle.cl_arith.proofs.Ranges.{tested_fits, xor_fits}
use Rattle.cl_arith.proofs.Bits.{conjunction_fits, disjunction_fits, complement_fits, left_fits, right_fits}
use Rattle.cl_arith.proofs.results_are_in_range.Goals as goal

pub returns-clause-tested : goal.returns-clause-tested
returns-clause-tested c = tested_fits

pub returns-clause-exclusive_or : goal.returns-clause-exclusive_or
returns-clause-exclusive_or c = xor_fits

pub returns-clause-conjunction : goal.returns-clause-conjunction
returns-clause-conjunction c = conjunction_fits

pub returns-clause-disjunction : goal.returns-clause-disjunction
returns-clause-disjunction c = disjunction_fits

pub returns-clause-complement : goal.returns-clause-complement
returns-clause-complement c = complement_fits

pub returns-clause-left : goal.returns-clause-left
returns-clause-left c = left_fits

pub returns-clause-right : goal.returns-clause-right
returns-clause-right c = right_fits
