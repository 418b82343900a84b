use Rattle.std.proofs.Common.{◌≡◌, ◌∙◌, ap, Some, Err}
use Rattle.serde_json.specs.View.{view, items_view}
use Rattle.serde_json.specs.Find.{as_array}
use Rattle.cl_types.proofs.Faults.{refused_so}
use Rattle.cl_file.proofs.Chain.{needed_there, needed_absent, said_some, said_none}
use Rattle.cl_file.proofs.file.array.Goals as goal

pub returns-in_default-clause-broken : goal.returns-in_default-clause-broken
returns-in_default-clause-broken c v = refused_so c.field.result _ _ (λ r h. needed_absent _ _ _ _ _ c.in_default.ensures ∙ ap Err h) c.field.ensures

pub returns-in-Some-as_array-clause-found : goal.returns-in-Some-as_array-clause-found
returns-in-Some-as_array-clause-found c v =
    let list : Some (items_view c.as_slice.result.now) ≡ as_array (view c.in-Some.value.now) = ap (λ xs. Some (items_view xs)) c.as_slice.ensures.value ∙ c.in-Some-as_array.ensures in
    needed_there _ _ _ _ _ _ c.in-Some.ensures ∙ said_some _ _ _ list

pub returns-in-None-clause-broken : goal.returns-in-None-clause-broken
returns-in-None-clause-broken c v = refused_so c.bad_member.result _ _ (λ r h. needed_there _ _ _ _ _ _ c.in-Some.ensures ∙ said_none _ _ c.in-None.ensures ∙ ap Err h) c.bad_member.ensures
