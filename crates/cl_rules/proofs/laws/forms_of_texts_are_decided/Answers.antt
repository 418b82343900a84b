use Rattle.std.proofs.Common.{length}
use Rattle.cl_rules.specs.FormRules.{nothing_defined}
use Rattle.cl_rules.specs.Acceptance.{forms_at}
use Rattle.cl_rules.proofs.TextForms.{ordered_placed}
use Rattle.cl_rules.proofs.FormWalk.{forms_decided, forms_walk_is_first}
use Rattle.cl_rules.proofs.laws.forms_of_texts_are_decided.Goals as goal

pub returns-clause-decided : goal.returns-clause-decided
returns-clause-decided c = λ deployed principal text forms order x.
    forms_decided (nothing_defined deployed principal text.version (length text.bytes)) (forms_at forms order) (ordered_placed (record { items = c.items_stand_in_order.ensures; each = c.expressions_are_placed.ensures.items; forms = c.expressions_are_placed.ensures.forms }) text forms order x)

pub returns-clause-walk : goal.returns-clause-walk
returns-clause-walk c = λ D text forms order r s x h.
    forms_walk_is_first D (forms_at forms order) r s (ordered_placed (record { items = c.items_stand_in_order.ensures; each = c.expressions_are_placed.ensures.items; forms = c.expressions_are_placed.ensures.forms }) text forms order x) h
