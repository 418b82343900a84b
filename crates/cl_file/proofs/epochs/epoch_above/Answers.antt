use Rattle.std.proofs.Common.{◌∙◌, ap, sym}
use Rattle.serde_json.specs.View.{view}
use Rattle.cl_types.proofs.Faults.{passes}
use Rattle.cl_file.specs.Objects.{only}
use Rattle.cl_file.proofs.Chain.{then_ok, then_err}
use Rattle.cl_file.proofs.ReadEquations.{epoch_is}
use Rattle.cl_file.proofs.epochs.epoch_above.Goals as goal

pub returns-in_err-only-clause-broken : goal.returns-in_err-only-clause-broken
returns-in_err-only-clause-broken c v =
    passes c.from_residual.result _ (λ r h. epoch_is _ _ _ _ ∙ then_err _ _ _ (ap (λ names. only c.args.path.now names (view c.args.value.now)) (sym c.names_of.ensures) ∙ h)) c.from_residual.ensures.1 c.in_err-only.ensures.broken

pub returns-in_err-begins-clause-broken : goal.returns-in_err-begins-clause-broken
returns-in_err-begins-clause-broken c v =
    let first = ap (λ names. only c.args.path.now names (view c.args.value.now)) (sym c.names_of.ensures) ∙ c.in_ok-only.ensures.found in
    passes c.from_residual-in_err-begins.result _ (λ r h. epoch_is _ _ _ _ ∙ then_ok _ _ _ first ∙ then_err _ _ _ h) c.from_residual-in_err-begins.ensures.1 (c.in_err-begins.ensures.broken v)

pub returns-in_err-table-clause-broken : goal.returns-in_err-table-clause-broken
returns-in_err-table-clause-broken c v =
    let first = ap (λ names. only c.args.path.now names (view c.args.value.now)) (sym c.names_of.ensures) ∙ c.in_ok-only.ensures.found in
    passes c.from_residual-in_err-table.result _ (λ r h. epoch_is _ _ _ _ ∙ then_ok _ _ _ first ∙ then_ok _ _ _ (c.in_ok-begins.ensures.found v) ∙ then_err _ _ _ h)
    c.from_residual-in_err-table.ensures.1 (c.in_err-table.ensures.broken v)

pub returns-clause-found : goal.returns-clause-found
returns-clause-found c v =
    let first = ap (λ names. only c.args.path.now names (view c.args.value.now)) (sym c.names_of.ensures) ∙ c.in_ok-only.ensures.found in
    epoch_is _ _ _ _ ∙ then_ok _ _ _ first ∙ then_ok _ _ _ (c.in_ok-begins.ensures.found v) ∙ then_ok _ _ _ (c.in_ok-table.ensures.found v)
