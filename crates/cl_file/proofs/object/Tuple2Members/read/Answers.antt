use Rattle.std.proofs.Common.{◌∙◌, ap, Err}
use Rattle.cl_types.proofs.Faults.{refused_so, passes}
use Rattle.cl_file.proofs.Chain.{then_ok, then_err, more_is, no_name}
use Rattle.cl_file.proofs.object.Tuple2Members.read.Goals as goal

pub returns-in_default-clause-broken : goal.returns-in_default-clause-broken
returns-in_default-clause-broken g c v = refused_so c.bad_value.result _ _ (λ r h. no_name _ _ _ _ _ _ c.in_default.ensures.none ∙ ap Err h) c.bad_value.ensures

pub returns-in_err-first-clause-broken : goal.returns-in_err-first-clause-broken
returns-in_err-first-clause-broken g c v =
    passes c.from_residual.result _ (λ r h. more_is _ _ _ _ _ _ _ _ c.in-Some.ensures.some ∙ then_err _ _ _ h) c.from_residual.ensures.1 (c.in_err-first.ensures.broken v)

pub returns-in_err-rest-clause-broken : goal.returns-in_err-rest-clause-broken
returns-in_err-rest-clause-broken g c v =
    passes c.from_residual-in_err-rest.result _
    (λ r h. more_is _ _ _ _ _ _ _ _ c.in-Some.ensures.some ∙ then_ok _ _ _ (c.in_ok-first.ensures.found v) ∙ then_err _ _ _ h)
    c.from_residual-in_err-rest.ensures.1 (c.in_err-rest.ensures.broken v)

pub returns-clause-found : goal.returns-clause-found
returns-clause-found g c v =
    more_is _ _ _ _ _ _ _ _ c.in-Some.ensures.some ∙ then_ok _ _ _ (c.in_ok-first.ensures.found v) ∙ then_ok _ _ _ (c.in_ok-rest.ensures.found v)
