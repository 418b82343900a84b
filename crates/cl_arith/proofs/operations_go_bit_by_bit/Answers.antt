use Rattle.cl_arith.proofs.Bits.{same_number, conjunction_bit, disjunction_bit, exclusive_bit, complement_bit, left_bit, left_below, right_bit, right_above}
use Rattle.cl_arith.proofs.operations_go_bit_by_bit.Goals as goal

pub returns-clause-same : goal.returns-clause-same
returns-clause-same c = same_number

pub returns-clause-both : goal.returns-clause-both
returns-clause-both c = conjunction_bit

pub returns-clause-either : goal.returns-clause-either
returns-clause-either c = disjunction_bit

pub returns-clause-one : goal.returns-clause-one
returns-clause-one c = exclusive_bit

pub returns-clause-other : goal.returns-clause-other
returns-clause-other c = complement_bit

pub returns-clause-left : goal.returns-clause-left
returns-clause-left c = left_bit

pub returns-clause-below : goal.returns-clause-below
returns-clause-below c = left_below

pub returns-clause-right : goal.returns-clause-right
returns-clause-right c = right_bit

pub returns-clause-above : goal.returns-clause-above
returns-clause-above c = right_above
