use Rattle.std.proofs.Common.{List, [], ◌∷◌, ◌++◌, map, Option, None, ap, ◌∙◌}
use Rattle.cl_forms.specs.Forms.{Form}
use Rattle.cl_code.specs.declared.definition.Definition.{Definition}
use Rattle.cl_typing.proofs.InOrder.{one_read, all_taken}
use Rattle.cl_check.proofs.placing.empty_slots.Goals as goal

abbrev empty : Form → Option Definition
empty f = None

pub loop-form-preserved : goal.loop-form-preserved
loop-form-preserved c =
    c.in_ok-push.ensures.items ∙ ap (λ (slots : List (Option Definition)). slots ++ None ∷ []) c.loop-form.invariant
    ∙ one_read empty c.args.forms.now c.loop-form._form-index c._form-item.result c.loop-form-test.true c._form-item.is

pub returns : goal.returns
returns c = c.loop-form.invariant ∙ ap (map empty) (all_taken c.args.forms.now c.loop-form._form-index c.loop-form-test.false)
