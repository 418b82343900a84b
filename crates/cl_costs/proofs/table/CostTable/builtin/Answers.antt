use Rattle.std.proofs.Common.{rules, refl, ◌∙◌}
use Rattle.cl_shapes.specs.Names.{unit_function}
use Rattle.cl_costs.specs.Tables.{unit_table}
use Rattle.cl_costs.proofs.Mapped.{results_of_calls}
use Rattle.cl_costs.proofs.table.CostTable.builtin.Goals as goal

pub returns : goal.returns
unfolding unit_table
returns c = c.new.ensures ∙ results_of_calls unit_function _ _ _ _ 24 refl (λ p q x y k. search rules) c.map.ensures.items
