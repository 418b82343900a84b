use Rattle.cl_forms.proofs.Nesting.{nest_as_items}
use Rattle.cl_forms.proofs.placed.expressions_nest_as_items.Goals as goal

pub returns : goal.returns
returns c = λ version items forms. nest_as_items {version = version} items forms
