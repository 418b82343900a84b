use Rattle.std.proofs.Common.{[], sym, ap, ◌∙◌}
use Rattle.cl_costs.specs.Tables.{function_of}
use Rattle.cl_code.specs.Typed.{type_of}
use Rattle.cl_bound.proofs.TreeBounds.{value_sum}
use Rattle.cl_bound.proofs.forms.value_charges.Goals as goal

pub returns : goal.returns
returns c G f shows stands = value_sum G f (function_of c.args.prices.now.costs) c.args.code.now c.code.inside.ty c.from.result c.tree_bound-sum.result c.add_charge.new.sum stands (ap type_of (sym c.code.view_is)) (c.from.ensures ∙ c.size.ensures.counted) (c.tree_bound-sum.ensures G [] f shows stands) c.add_charge.ensures
