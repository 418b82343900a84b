use Rattle.std.proofs.Common.{◌∙◌}
use Rattle.cl_types.proofs.Faults.{passes}
use Rattle.cl_file.proofs.Handed.{ok_so, refuses_so}
use Rattle.cl_file.proofs.Chain.{then_ok, then_err}
use Rattle.cl_file.proofs.ReadEquations.{after_is}
use Rattle.cl_file.proofs.entries.entry_after.Goals as goal

pub returns-in_err-entry-clause-broken : goal.returns-in_err-entry-clause-broken
returns-in_err-entry-clause-broken c v = passes c.from_residual.result _ (λ r h. after_is _ _ _ _ ∙ then_err _ _ _ h) c.from_residual.ensures.1 (c.in_err-entry.ensures.broken v)

pub returns-clause-found : goal.returns-clause-found
returns-clause-found c v = ok_so c.rising.result (λ e h. after_is _ _ _ _ ∙ then_ok _ _ _ (c.in_ok-entry.ensures.found v) ∙ h) c.rising.ensures.found

pub returns-clause-broken : goal.returns-clause-broken
returns-clause-broken c v = refuses_so c.rising.result (λ r h. after_is _ _ _ _ ∙ then_ok _ _ _ (c.in_ok-entry.ensures.found v) ∙ h) c.rising.ensures.broken
