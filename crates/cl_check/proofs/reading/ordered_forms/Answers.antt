use Rattle.std.proofs.Common.{◌<◌, ◌^◌, List, length, sym, subst, arith}
use Rattle.cl_types.proofs.Faults.{passes}
use Rattle.cl_sexpr.specs.Tree.{forest}
use Rattle.cl_forms.specs.Forms.{Form}
use Rattle.cl_forms.specs.Order.{IsGoodOrder}
use Rattle.cl_forms.specs.Texts.{text_of}
use Rattle.cl_check.proofs.Sources.{refused_text, refused_forms, refused_order, ordered_here, forms_of_row, known_forms}
use Rattle.cl_check.proofs.TextNames.{name_own}
use Rattle.cl_check.proofs.reading.ordered_forms.Goals as goal

pub returns-in_err-items-clause-broken : goal.returns-in_err-items-clause-broken
returns-in_err-items-clause-broken c =
    passes c.from_residual.result c.in_err-items.field-0.0 (λ r h. h) c.from_residual.ensures.1
    (refused_text (text_of c.args.source.now c.args.version) c.in_err-items.field-0.0 c.in_err-items.ensures.broken c.in_err-items.ensures.nameless)

pub returns-in_err-forms-clause-broken : goal.returns-in_err-forms-clause-broken
returns-in_err-forms-clause-broken c =
    passes c.from_residual-in_err-forms.result c.in_err-forms.field-0.0 (λ r h. h) c.from_residual-in_err-forms.ensures.1
    (refused_forms (text_of c.args.source.now c.args.version) c.in_ok-items.items.items c.in_ok-items.ensures.found c.in_err-forms.field-0.0 c.in_err-forms.ensures.broken c.in_err-forms.ensures.nameless)

pub ordered-requires : goal.ordered-requires
ordered-requires c =
    let items = c.in_ok-items.items.items in
    let forms = c.in_ok-forms.forms.items in
    let few : length forms < 2 ^ 32 = omega (
      arith,
      c.forms_have_few_parts.ensures.forms forms,
      c.forms_have_few_parts.ensures.parts c.args.version items forms c.in_ok-forms.ensures.found,
      c.one_reading.ensures.few c.args.source.now (forest items) c.in_ok-items.ensures.found,
      c.in_ok-items.ensures.found.size,
    ) in
    subst (λ (fs : List Form). length fs < 2 ^ 32) (sym c.deref.ensures.value) few

pub returns-in_err-order-clause-broken : goal.returns-in_err-order-clause-broken
returns-in_err-order-clause-broken c =
    passes c.from_residual-in_err-order.result c.in_err-order.field-0.0 (λ r h. h) c.from_residual-in_err-order.ensures.1
    (refused_order (text_of c.args.source.now c.args.version) c.in_ok-items.items.items c.in_ok-items.ensures.found c.in_ok-forms.forms.items c.deref.result.now
    c.in_ok-forms.ensures.found c.deref.ensures.value c.in_err-order.field-0.0 c.in_err-order.ensures.cycle)

pub returns-clause-found : goal.returns-clause-found
returns-clause-found c =
    ordered_here (text_of c.args.source.now c.args.version) c.in_ok-items.items.items c.in_ok-items.ensures.found c.in_ok-forms.forms.items c.deref.result.now
    c.in_ok-forms.ensures.found c.deref.ensures.value c.in_ok-order.order.items c.in_ok-order.ensures.computed

pub returns-clause-known : goal.returns-clause-known
returns-clause-known c =
    known_forms (text_of c.args.source.now c.args.version) c.in_ok-items.items.items c.in_ok-forms.forms.items c.in_ok-items.ensures.found c.in_ok-forms.ensures.found
    (c.one_reading.ensures.few c.args.source.now (forest c.in_ok-items.items.items) c.in_ok-items.ensures.found)
    (c.forms_have_few_parts.ensures.parts c.args.version c.in_ok-items.items.items c.in_ok-forms.forms.items c.in_ok-forms.ensures.found)
    (c.expressions_are_within_limits.ensures c.args.version (forest c.in_ok-items.items.items) c.in_ok-forms.forms.items (c.literals_are_within_limits.ensures c.args.source.now (forest c.in_ok-items.items.items) c.in_ok-items.ensures.found) (forms_of_row c.args.version c.in_ok-items.items.items c.in_ok-forms.forms.items c.in_ok-forms.ensures.found))
    (λ n form h. c.expressions_nest_as_items.ensures c.args.version c.in_ok-items.items.items c.in_ok-forms.forms.items n form c.in_ok-forms.ensures.found h)

pub returns-clause-own : goal.returns-clause-own
returns-clause-own c x n h = name_own c.args.version c.in_ok-items.items.items c.in_ok-forms.forms.items c.in_ok-forms.ensures.found n x h

pub returns-clause-good : goal.returns-clause-good
returns-clause-good c = subst (λ (fs : List Form). IsGoodOrder fs c.in_ok-order.order.items) c.deref.ensures.value c.in_ok-order.ensures.good

pub returns-clause-size : goal.returns-clause-size
returns-clause-size c = c.in_ok-items.ensures.found.size
