use Rattle.std.proofs.Common.{subst}
use Rattle.cl_rules.proofs.Judged.{IsSo, FormsAreSo, judged_so, forms_so}
use Rattle.cl_rules.proofs.laws.the_plain_program_is_right.Goals as goal

pub returns-clause-typed : goal.returns-clause-typed
returns-clause-typed c = λ d G B e f h. subst (IsSo G B e) h (judged_so G d B e)

pub returns-clause-stops : goal.returns-clause-stops
returns-clause-stops c = λ d G B e r s h. subst (IsSo G B e) h (judged_so G d B e)

pub returns-clause-forms_typed : goal.returns-clause-forms_typed
returns-clause-forms_typed c = λ D E forms h. subst (FormsAreSo D forms) h (forms_so forms D)

pub returns-clause-forms_stop : goal.returns-clause-forms_stop
returns-clause-forms_stop c = λ D forms r s h. subst (FormsAreSo D forms) h (forms_so forms D)
