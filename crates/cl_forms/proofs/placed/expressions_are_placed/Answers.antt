use Rattle.cl_forms.proofs.Placing.{items_placed, expressions_placed}
use Rattle.cl_forms.proofs.placed.expressions_are_placed.Goals as goal

pub returns-clause-items : goal.returns-clause-items
returns-clause-items c = items_placed

pub returns-clause-forms : goal.returns-clause-forms
returns-clause-forms c = λ version items forms. expressions_placed {version = version} items forms
