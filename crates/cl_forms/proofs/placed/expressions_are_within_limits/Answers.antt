use Rattle.cl_forms.proofs.ExpressionsFit.{forms_of_items_fit}
use Rattle.cl_forms.proofs.placed.expressions_are_within_limits.Goals as goal

pub returns : goal.returns
returns c = λ version items forms. forms_of_items_fit {version = version} items forms
