use Rattle.std.proofs.Common.{List, map, filter_map, slice_get, ap, ◌∙◌}
use Rattle.cl_code.specs.declared.definition.Definition.{Definition}
use Rattle.cl_code.specs.Definitions.{form_defined}
use Rattle.cl_check.proofs.InTextOrder.{as_many, text_forms, text_order, is_text}
use Rattle.cl_check.proofs.placing.in_text_order.Goals as goal

pub filled-requires-clause-as_many : goal.filled-requires-clause-as_many
filled-requires-clause-as_many c = as_many c.args.forms.now c.args.order.now c.args.definitions.items c.requires.good.within c.requires.defined

pub returns-clause-forms : goal.returns-clause-forms
returns-clause-forms c =
    ap (map form_defined) (is_text c.args.forms.now c.args.order.now c.args.definitions.items c.in_ok-slots.slots.items c.in_ok-placed.placed.items c.in_ok-slots.ensures c.in_ok-placed.ensures)
    ∙ text_forms c.args.forms.now c.args.order.now c.args.definitions.items c.requires.good c.requires.defined

pub returns-clause-order : goal.returns-clause-order
returns-clause-order c =
    ap (λ (ds : List Definition). filter_map (slice_get ds) c.args.order.now) (is_text c.args.forms.now c.args.order.now c.args.definitions.items c.in_ok-slots.slots.items c.in_ok-placed.placed.items c.in_ok-slots.ensures c.in_ok-placed.ensures)
    ∙ text_order c.args.forms.now c.args.order.now c.args.definitions.items c.requires.good c.requires.defined
