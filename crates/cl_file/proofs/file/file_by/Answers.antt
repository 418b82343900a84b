use Rattle.std.proofs.Common.{◌∙◌, ap, sym, Ok}
use Rattle.cl_types.proofs.Faults.{passes}
use Rattle.cl_file.proofs.Chain.{then_err}
use Rattle.cl_file.proofs.ReadEquations.{file_is}
use Rattle.cl_file.proofs.file.file_by.Goals as goal

pub returns-in_err-held-clause-broken : goal.returns-in_err-held-clause-broken
returns-in_err-held-clause-broken c v = passes c.from_residual.result _ (λ r h. file_is _ _ _ _ ∙ then_err _ _ _ h) c.from_residual.ensures.1 (c.in_err-held.ensures.broken v)

pub returns-in_err-begun-clause-broken : goal.returns-in_err-begun-clause-broken
returns-in_err-begun-clause-broken c v = passes c.from_residual-in_err-begun.result _ (λ r h. h) c.from_residual-in_err-begun.ensures.1 (c.in_err-begun.ensures.broken v _ (c.in_ok-held.ensures.found v))

pub returns-clause-found : goal.returns-clause-found
returns-clause-found c v = c.in_ok-begun.ensures.found v _ (c.in_ok-held.ensures.found v) ∙ ap Ok (sym c.new.ensures)

pub new-requires-clause-once : goal.new-requires-clause-once
new-requires-clause-once c = c.in_ok-held.ensures.once

pub new-requires-clause-rising : goal.new-requires-clause-rising
new-requires-clause-rising c = c.in_ok-begun.ensures.rising

pub new-requires-clause-epochs : goal.new-requires-clause-epochs
new-requires-clause-epochs c = c.in_ok-begun.ensures.epochs
