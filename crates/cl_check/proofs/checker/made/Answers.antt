use Rattle.std.proofs.Common.{List, map, filter_map, slice_get, sym, subst, ap, ◌∙◌}
use Rattle.std.specs.List.{list_all}
use Rattle.cl_forms.specs.Forms.{Form}
use Rattle.cl_forms.specs.Order.{IsGoodOrder}
use Rattle.cl_code.specs.declared.definition.Definition.{Definition}
use Rattle.cl_code.specs.Definitions.{form_defined}
use Rattle.cl_contracts.specs.Seen.{goes}
use Rattle.cl_check.specs.Placing.{ArePlaces, AreNamedApart}
use Rattle.cl_check.proofs.CheckedTexts.{is_good, forms_same}
use Rattle.cl_check.proofs.Going.{in_text}
use Rattle.cl_check.proofs.checker.made.Goals as goal

pub in_text_order-requires-clause-good : goal.in_text_order-requires-clause-good
in_text_order-requires-clause-good c =
    is_good c.args.program.forms.items c.deref.result.now c.args.program.order.items c.deref-2.result.now c.deref.ensures.value c.deref-2.ensures.value c.requires.good

pub in_text_order-requires-clause-defined : goal.in_text_order-requires-clause-defined
in_text_order-requires-clause-defined c =
    c.requires.defined ∙ sym (forms_same c.args.program.forms.items c.deref.result.now c.args.program.order.items c.deref-2.result.now c.deref.ensures.value c.deref-2.ensures.value)

pub places-requires : goal.places-requires
places-requires c =
    subst (λ (fs : List Form). AreNamedApart fs) (sym (ap (map form_defined) c.deref-3.ensures.value ∙ c.in_ok-definitions.ensures.forms ∙ c.deref.ensures.value)) c.requires.known.new

pub returns-clause-forms : goal.returns-clause-forms
returns-clause-forms c = c.in_ok-definitions.ensures.forms ∙ c.deref.ensures.value

pub returns-clause-done : goal.returns-clause-done
returns-clause-done c = ap (filter_map (slice_get c.in_ok-definitions.definitions.items)) (sym c.deref-2.ensures.value) ∙ c.in_ok-definitions.ensures.order

pub returns-clause-indexed : goal.returns-clause-indexed
returns-clause-indexed c =
    let p = subst (λ (ds : List Definition). ArePlaces (map form_defined ds) c.in_ok-places.places.entries) c.deref-3.ensures.value c.in_ok-places.ensures in
    let forms = c.in_ok-definitions.ensures.forms ∙ c.deref.ensures.value in
    let done = ap (filter_map (slice_get c.in_ok-definitions.definitions.items)) (sym c.deref-2.ensures.value) ∙ c.in_ok-definitions.ensures.order in
    record {
      placed = p.placed;
      named = p.named;
      order = subst (λ (fs : List Form). IsGoodOrder fs c.args.program.order.items) (sym forms) c.requires.good;
      goes = in_text (goes c.args.version) c.in_ok-definitions.definitions.items c.args.program.forms.items c.args.program.order.items c.requires.good forms (ap (list_all (goes c.args.version)) done ∙ c.requires.goes);
    }
