use Rattle.std.proofs.Common.{[], ◌∙◌, ap, sym}
use Rattle.serde_json.specs.View.{view}
use Rattle.cl_types.proofs.Faults.{passes}
use Rattle.cl_file.specs.Objects.{only}
use Rattle.cl_file.proofs.Handed.{ok_so, refuses_so}
use Rattle.cl_file.proofs.Chain.{then_ok, then_err}
use Rattle.cl_file.proofs.ReadEquations.{second_members_is}
use Rattle.cl_file.proofs.file.second_members_of.Goals as goal

pub returns-in_err-only-clause-broken : goal.returns-in_err-only-clause-broken
returns-in_err-only-clause-broken c v =
    passes c.from_residual.result _ (λ r h. second_members_is _ _ ∙ then_err _ _ _ (ap (λ names. only [] names (view c.args.value.now)) (sym c.names_of.ensures) ∙ h)) c.from_residual.ensures.1 c.in_err-only.ensures.broken

pub returns-in_err-genesis-clause-broken : goal.returns-in_err-genesis-clause-broken
returns-in_err-genesis-clause-broken c v =
    let first = ap (λ names. only [] names (view c.args.value.now)) (sym c.names_of.ensures) ∙ c.in_ok-only.ensures.found in
    passes c.from_residual-in_err-genesis.result _ (λ r h. second_members_is _ _ ∙ then_ok _ _ _ first ∙ then_err _ _ _ h) c.from_residual-in_err-genesis.ensures.1 (c.in_err-genesis.ensures.broken v.of)

pub returns-in_err-epochs-clause-broken : goal.returns-in_err-epochs-clause-broken
returns-in_err-epochs-clause-broken c v =
    let first = ap (λ names. only [] names (view c.args.value.now)) (sym c.names_of.ensures) ∙ c.in_ok-only.ensures.found in
    passes c.from_residual-in_err-epochs.result _ (λ r h. second_members_is _ _ ∙ then_ok _ _ _ first ∙ then_ok _ _ _ (c.in_ok-genesis.ensures.found v.of) ∙ then_err _ _ _ h)
    c.from_residual-in_err-epochs.ensures.1 (c.in_err-epochs.ensures.broken v.of)

pub returns-in_err-list-clause-broken : goal.returns-in_err-list-clause-broken
returns-in_err-list-clause-broken c v =
    let first = ap (λ names. only [] names (view c.args.value.now)) (sym c.names_of.ensures) ∙ c.in_ok-only.ensures.found in
    passes c.from_residual-in_err-list.result _ (λ r h. second_members_is _ _ ∙ then_ok _ _ _ first ∙ then_ok _ _ _ (c.in_ok-genesis.ensures.found v.of) ∙ then_ok _ _ _ (c.in_ok-epochs.ensures.found v.of) ∙ then_err _ _ _ h)
    c.from_residual-in_err-list.ensures.1 (c.in_err-list.ensures.broken v.of)

pub returns-clause-found : goal.returns-clause-found
returns-clause-found c v =
    let first = ap (λ names. only [] names (view c.args.value.now)) (sym c.names_of.ensures) ∙ c.in_ok-only.ensures.found in
    ok_so c.file_by.result (λ f h. second_members_is _ _ ∙ then_ok _ _ _ first ∙ then_ok _ _ _ (c.in_ok-genesis.ensures.found v.of) ∙ then_ok _ _ _ (c.in_ok-epochs.ensures.found v.of) ∙ then_ok _ _ _ (c.in_ok-list.ensures.found v.of) ∙ h) (c.file_by.ensures.found v)

pub returns-clause-broken : goal.returns-clause-broken
returns-clause-broken c v =
    let first = ap (λ names. only [] names (view c.args.value.now)) (sym c.names_of.ensures) ∙ c.in_ok-only.ensures.found in
    refuses_so c.file_by.result (λ f h. second_members_is _ _ ∙ then_ok _ _ _ first ∙ then_ok _ _ _ (c.in_ok-genesis.ensures.found v.of) ∙ then_ok _ _ _ (c.in_ok-epochs.ensures.found v.of) ∙ then_ok _ _ _ (c.in_ok-list.ensures.found v.of) ∙ h) (c.file_by.ensures.broken v)
