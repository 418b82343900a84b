use Rattle.cl_c32.proofs.Numbers.{number_in-regrouped_digits, regrouped_digits-below, regrouped_digits-regrouped_digits}
use Rattle.cl_c32.proofs.laws.one_number.Goals as goal

pub returns-clause-number : goal.returns-clause-number
returns-clause-number c = number_in-regrouped_digits

pub returns-clause-digits : goal.returns-clause-digits
returns-clause-digits c = regrouped_digits-below

pub returns-clause-back : goal.returns-clause-back
returns-clause-back c = regrouped_digits-regrouped_digits
