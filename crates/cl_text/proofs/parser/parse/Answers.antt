use Rattle.std.proofs.Common.{◌≡◌, List, true, refl, subst, sym}
use Rattle.cl_sexpr.specs.declared.rule.Refusal.{Refusal}
use Rattle.cl_sexpr.specs.Tree.{Tree as Item, forest}
use Rattle.cl_text.specs.Spelled.{are_spelled}
use Rattle.cl_text.specs.Parsed.{Broken, Parses, breaks}
use Rattle.cl_text.proofs.Spelling.{spelled}
use Rattle.cl_text.proofs.Outcomes.{found_so, broken_so}
use Rattle.cl_text.proofs.parser.parse.Goals as goal

pub items_value-requires-clause-spelled : goal.items_value-requires-clause-spelled
items_value-requires-clause-spelled c =
    let P : List Item → Type 0 = λ ts. are_spelled (forest ts) ≡ true in
    subst P (sym c.deref.ensures.value) (spelled c.args.text.now (forest c.in-Ok.items.items) c.in-Ok.ensures.found)

pub returns-in-Ok-clause-found : goal.returns-in-Ok-clause-found
returns-in-Ok-clause-found c =
    found_so c.args.text.now c.in-Ok.items.items c.deref.result.now c.items_value.result c.in-Ok.ensures.found c.deref.ensures.value c.items_value.ensures.found

pub returns-in-Ok-clause-broken : goal.returns-in-Ok-clause-broken
returns-in-Ok-clause-broken c =
    broken_so c.args.text.now c.in-Ok.items.items c.deref.result.now c.items_value.result c.in-Ok.ensures.found c.deref.ensures.value c.items_value.ensures.broken

pub returns-in-Err-Refused-clause-broken : goal.returns-in-Err-Refused-clause-broken
returns-in-Err-Refused-clause-broken c =
    let broken = rw c.in-Err-Refused.field-0-is at c.in-Err-Refused.ensures.broken in
    let P : Refusal → Type 0 = λ r. Parses c.args.text.now (Broken (record { rule = r.rule; span = r.span })) in
    subst P (sym c.in-Err-Refused.refusal-is) (breaks (record { rule = c.in-Err-Refused.refusal.rule; span = c.in-Err-Refused.refusal.span }) broken refl)
