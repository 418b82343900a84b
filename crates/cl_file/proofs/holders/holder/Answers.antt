use Rattle.std.proofs.Common.{◌∙◌, ap, sym}
use Rattle.serde_json.specs.View.{view}
use Rattle.cl_types.proofs.Faults.{passes}
use Rattle.cl_file.specs.Objects.{only}
use Rattle.cl_file.proofs.Chain.{then_ok, then_err}
use Rattle.cl_file.proofs.ReadEquations.{holder_is}
use Rattle.cl_file.proofs.holders.holder.Goals as goal

pub returns-in_err-only-clause-broken : goal.returns-in_err-only-clause-broken
returns-in_err-only-clause-broken c v =
    passes c.from_residual.result _ (λ r h. holder_is _ _ _ _ ∙ then_err _ _ _ (ap (λ names. only c.args.path.now names (view c.args.value.now)) (sym c.names_of.ensures) ∙ h)) c.from_residual.ensures.1 c.in_err-only.ensures.broken

pub returns-in_err-principal-clause-broken : goal.returns-in_err-principal-clause-broken
returns-in_err-principal-clause-broken c v =
    let first = ap (λ names. only c.args.path.now names (view c.args.value.now)) (sym c.names_of.ensures) ∙ c.in_ok-only.ensures.found in
    passes c.from_residual-in_err-principal.result _ (λ r h. holder_is _ _ _ _ ∙ then_ok _ _ _ first ∙ then_err _ _ _ h) c.from_residual-in_err-principal.ensures.1 (c.in_err-principal.ensures.broken v)

pub returns-in_err-amount-clause-broken : goal.returns-in_err-amount-clause-broken
returns-in_err-amount-clause-broken c v =
    let first = ap (λ names. only c.args.path.now names (view c.args.value.now)) (sym c.names_of.ensures) ∙ c.in_ok-only.ensures.found in
    passes c.from_residual-in_err-amount.result _ (λ r h. holder_is _ _ _ _ ∙ then_ok _ _ _ first ∙ then_ok _ _ _ (c.in_ok-principal.ensures.found v) ∙ then_err _ _ _ h)
    c.from_residual-in_err-amount.ensures.1 (c.in_err-amount.ensures.broken v)

pub returns-clause-found : goal.returns-clause-found
returns-clause-found c v =
    let first = ap (λ names. only c.args.path.now names (view c.args.value.now)) (sym c.names_of.ensures) ∙ c.in_ok-only.ensures.found in
    holder_is _ _ _ _ ∙ then_ok _ _ _ first ∙ then_ok _ _ _ (c.in_ok-principal.ensures.found v) ∙ then_ok _ _ _ (c.in_ok-amount.ensures.found v)
