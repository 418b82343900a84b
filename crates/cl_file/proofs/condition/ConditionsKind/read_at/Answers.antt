use Rattle.std.proofs.Common.{◌≡◌, ◌∙◌, ap, sym, Some, [], Err}
use Rattle.serde_json.specs.View.{view, items_view}
use Rattle.serde_json.specs.Find.{as_array}
use Rattle.cl_types.proofs.Faults.{refused_so}
use Rattle.cl_file.specs.Paths.{below, each_from}
use Rattle.cl_file.specs.Conditions.{condition_at}
use Rattle.cl_file.proofs.Handed.{ok_so, refuses_so}
use Rattle.cl_file.proofs.Chain.{then_ok, then_err, said_some, said_none}
use Rattle.cl_file.proofs.ReadEquations.{post_is}
use Rattle.cl_file.proofs.condition.ConditionsKind.read_at.Goals as goal

pub returns-in_default-clause-broken : goal.returns-in_default-clause-broken
returns-in_default-clause-broken c v =
    refused_so c.bad_member.result _ _ (λ r h. post_is _ _ _ ∙ then_err _ _ _ (said_none _ _ c.in_default.ensures ∙ ap Err h)) c.bad_member.ensures

pub returns-clause-found : goal.returns-clause-found
returns-clause-found c v =
    let at : below c.args.path.now c.args.name.now ≡ c.as_str.result.now = sym c.in_ok-path.ensures ∙ sym c.as_str.ensures.value in
    let list : Some (items_view c.as_slice.result.now) ≡ as_array (view c.args.value.now) = ap (λ xs. Some (items_view xs)) c.as_slice.ensures.value ∙ c.in-Some.ensures in
    ok_so c.conditions.result (λ x h. post_is _ _ _ ∙ then_ok _ _ _ (said_some _ _ _ list) ∙ ap (λ p. each_from (condition_at v.of) p [] 0 (items_view c.as_slice.result.now)) at ∙ h) (c.conditions.ensures.found v)

pub returns-clause-broken : goal.returns-clause-broken
returns-clause-broken c v =
    let at : below c.args.path.now c.args.name.now ≡ c.as_str.result.now = sym c.in_ok-path.ensures ∙ sym c.as_str.ensures.value in
    let list : Some (items_view c.as_slice.result.now) ≡ as_array (view c.args.value.now) = ap (λ xs. Some (items_view xs)) c.as_slice.ensures.value ∙ c.in-Some.ensures in
    refuses_so c.conditions.result (λ x h. post_is _ _ _ ∙ then_ok _ _ _ (said_some _ _ _ list) ∙ ap (λ p. each_from (condition_at v.of) p [] 0 (items_view c.as_slice.result.now)) at ∙ h) (c.conditions.ensures.broken v)
