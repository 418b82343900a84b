use Rattle.std.proofs.Common.{rules, refl}
use Rattle.cl_shapes.specs.Names.{cost_name}
use Rattle.cl_costs.proofs.Mapped.{map_of_calls}
use Rattle.cl_costs.proofs.cost_file.all_names.Goals as goal

pub returns : goal.returns
returns c = map_of_calls (λ name. name.now) cost_name _ _ _ _ 24 refl (λ p q x y k. search rules) c.map.ensures.items
