use Rattle.cl_rules.proofs.FormWalk.{one_end, forms_clean, forms_never_both, one_first_form, forms_decided}
use Rattle.cl_rules.proofs.laws.forms_have_one_answer.Goals as goal

pub returns-clause-one_end : goal.returns-clause-one_end
returns-clause-one_end c = λ D E F forms x y. one_end x y

pub returns-clause-clean : goal.returns-clause-clean
returns-clause-clean c = λ D E C forms form n r s x l k. forms_clean x l k

pub returns-clause-never_both : goal.returns-clause-never_both
returns-clause-never_both c = forms_never_both

pub returns-clause-one_first : goal.returns-clause-one_first
returns-clause-one_first c = one_first_form

pub returns-clause-decided : goal.returns-clause-decided
returns-clause-decided c = forms_decided
