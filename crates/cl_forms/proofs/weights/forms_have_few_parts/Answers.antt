use Rattle.cl_forms.proofs.Weighing.{forms_within, forms_counted}
use Rattle.cl_forms.proofs.weights.forms_have_few_parts.Goals as goal

pub returns-clause-parts : goal.returns-clause-parts
returns-clause-parts c = λ version items forms. forms_within {version = version} items forms

pub returns-clause-forms : goal.returns-clause-forms
returns-clause-forms c = forms_counted
