use Rattle.std.proofs.Common.{◌≡◌, List, subst, sym, ◌∙◌, ap}
use Rattle.std.specs.Prelude.{IfOk}
use Rattle.cl_types.specs.Fault.{IfRefused}
use Rattle.cl_sexpr.specs.Tree.{Tree as Item, forest}
use Rattle.cl_text.specs.Parsed.{Reading, Stands, items_outcome, outcome_of}
use Rattle.cl_text.proofs.Outcomes.{more_items, no_items, one_item}
use Rattle.cl_text.proofs.parser.items_value.Goals as goal

pub returns-then-not-is_empty-clause-broken : goal.returns-then-not-is_empty-clause-broken
returns-then-not-is_empty-clause-broken c =
    ap (λ (ts : List Item). items_outcome c.args.size (forest ts)) c.in-Some.ensures.cases.0
    ∙ more_items c.args.size c.in-Some.item.now c.in-Some.others.now (sym c.is_empty.ensures ∙ c.if-not-is_empty.true)

pub returns-in_default-clause-broken : goal.returns-in_default-clause-broken
returns-in_default-clause-broken c = no_items c.args.size c.args.items.now c.in_default.ensures.cases

pub returns-clause-found : goal.returns-clause-found
returns-clause-found c =
    subst (λ (o : Reading). IfOk c.item_value.result (λ v. o ≡ Stands v))
    (one_item c.args.size c.args.items.now c.in-Some.others.now c.in-Some.item.now c.in-Some.ensures.cases.0 c.if-not-is_empty.ensures)
    c.item_value.ensures.found

pub returns-clause-broken : goal.returns-clause-broken
returns-clause-broken c =
    subst (λ (o : Reading). IfRefused c.item_value.result (λ r. o ≡ outcome_of r))
    (one_item c.args.size c.args.items.now c.in-Some.others.now c.in-Some.item.now c.in-Some.ensures.cases.0 c.if-not-is_empty.ensures)
    c.item_value.ensures.broken
