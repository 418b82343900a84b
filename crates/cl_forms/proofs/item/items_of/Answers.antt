use Rattle.cl_forms.proofs.Bindings.{items_given}
use Rattle.cl_forms.proofs.item.items_of.Goals as goal

pub returns : goal.returns
returns c = items_given (λ v. v.items) c.into_items.result c.args.item c.into_items.ensures
