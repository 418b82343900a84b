use Rattle.cl_types.proofs.Faults.{passes}
use Rattle.cl_file.proofs.holders.holders.Goals as goal

pub returns-in_err-fill-clause-broken : goal.returns-in_err-fill-clause-broken
returns-in_err-fill-clause-broken c v = passes c.from_residual.result _ (λ r h. h) c.from_residual.ensures.1 (c.in_err-fill.ensures.broken v)

pub returns-clause-found : goal.returns-clause-found
returns-clause-found c v = c.in_ok-fill.ensures.found v

pub returns-clause-once : goal.returns-clause-once
returns-clause-once c = c.in_ok-fill.ensures.once
