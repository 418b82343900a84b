use Rattle.std.proofs.Common.{◌∙◌}
use Rattle.cl_audit_steps.proofs.ItemLaws.{binding_found, no_items}
use Rattle.cl_audit_steps.proofs.items.binding.Goals as goal

pub returns-in-Some : goal.returns-in-Some
returns-in-Some c = c.name_and_item.ensures ∙ binding_found _ _ c.in-Some.ensures

pub returns-in-None : goal.returns-in-None
returns-in-None c = no_items _ c.in-None.ensures
