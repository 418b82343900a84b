use Rattle.std.proofs.Common.{◌∙◌}
use Rattle.std.specs.Prelude.{nat_eq}
use Rattle.std.specs.Cmp.Lexicographic.{pointwise}
use Rattle.indexmap.proofs.CallerLemmas.{insert_entry-new}
use Rattle.cl_audit_steps.proofs.PlaceLaws.{not_there, placed_new, there_already}
use Rattle.cl_audit_steps.proofs.places.put_place.Goals as goal

pub returns-then-contains_key-clause-put : goal.returns-then-contains_key-clause-put
returns-then-contains_key-clause-put c = there_already c.args.name.now c.args.place c.args.places.now.entries _ c.contains_key.ensures c.if-contains_key.true

pub returns-clause-put : goal.returns-clause-put
returns-clause-put c =
    let none = not_there c.args.name.now c.args.places.now.entries _ c.contains_key.ensures c.if-contains_key.false in
    placed_new c.args.name.now c.args.place c.args.places.now.entries _ none (c.in_ok-insert.ensures.entries ∙ insert_entry-new (pointwise nat_eq) c.args.places.now c.args.name.now c.args.place none)
