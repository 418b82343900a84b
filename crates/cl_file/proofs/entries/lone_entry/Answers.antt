use Rattle.std.proofs.Common.{◌≡◌, ◌∙◌, ap, sym, Err}
use Rattle.serde_json.specs.View.{view}
use Rattle.cl_types.proofs.Faults.{refused_so}
use Rattle.cl_file.specs.Paths.{below}
use Rattle.cl_file.specs.Entries.{entry_by}
use Rattle.cl_file.proofs.Handed.{ok_so, refuses_so}
use Rattle.cl_file.proofs.Chain.{then_ok, then_err, said_some, said_none}
use Rattle.cl_file.proofs.ReadEquations.{entry_is}
use Rattle.cl_file.proofs.entries.lone_entry.Goals as goal

pub returns-in_default-clause-broken : goal.returns-in_default-clause-broken
returns-in_default-clause-broken c v = refused_so c.bad_value.result _ _ (λ r h. entry_is _ _ _ ∙ then_err _ _ _ (said_none _ _ c.in_default.ensures ∙ ap Err h)) c.bad_value.ensures

pub returns-clause-found : goal.returns-clause-found
returns-clause-found c v =
    let at : below c.args.path.now c.in-Some.name.now ≡ c.as_str.result.now = sym c.in_ok-path.ensures ∙ sym c.as_str.ensures.value in
    ok_so c.entry_by.result
    (λ x h. entry_is _ _ _ ∙ then_ok _ _ _ (said_some _ _ _ c.in-Some.ensures) ∙ ap (λ k. entry_by k v.of (below c.args.path.now c.in-Some.name.now) (view c.in-Some.value.now)) (sym c.entry_kind.ensures)
    ∙ ap (λ p. entry_by c.entry_kind.result v.of p (view c.in-Some.value.now)) at ∙ h)
    (c.entry_by.ensures.found v)

pub returns-clause-broken : goal.returns-clause-broken
returns-clause-broken c v =
    let at : below c.args.path.now c.in-Some.name.now ≡ c.as_str.result.now = sym c.in_ok-path.ensures ∙ sym c.as_str.ensures.value in
    refuses_so c.entry_by.result
    (λ x h. entry_is _ _ _ ∙ then_ok _ _ _ (said_some _ _ _ c.in-Some.ensures) ∙ ap (λ k. entry_by k v.of (below c.args.path.now c.in-Some.name.now) (view c.in-Some.value.now)) (sym c.entry_kind.ensures)
    ∙ ap (λ p. entry_by c.entry_kind.result v.of p (view c.in-Some.value.now)) at ∙ h)
    (c.entry_by.ensures.broken v)
