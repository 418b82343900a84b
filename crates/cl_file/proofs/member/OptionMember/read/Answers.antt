use Rattle.std.proofs.Common.{◌∙◌}
use Rattle.cl_types.proofs.Faults.{passes}
use Rattle.cl_file.proofs.Chain.{then_ok, then_err, optional_there, optional_absent}
use Rattle.cl_file.proofs.member.OptionMember.read.Goals as goal

pub returns-in_default-clause-found : goal.returns-in_default-clause-found
returns-in_default-clause-found g c v = optional_absent _ _ _ _ _ c.in_default.ensures

pub returns-in_err-read-clause-broken : goal.returns-in_err-read-clause-broken
returns-in_err-read-clause-broken g c v =
    passes c.from_residual.result _ (λ r h. optional_there _ _ _ _ _ _ c.in-Some.ensures ∙ then_err _ _ _ h) c.from_residual.ensures.1 (c.in_err-read.ensures.broken v)

pub returns-clause-found : goal.returns-clause-found
returns-clause-found g c v = optional_there _ _ _ _ _ _ c.in-Some.ensures ∙ then_ok _ _ _ (c.in_ok-read.ensures.found v)
