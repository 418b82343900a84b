use Rattle.std.proofs.Common.{◌∙◌, ap, Err}
use Rattle.cl_types.proofs.Faults.{refused_so}
use Rattle.cl_file.proofs.Handed.{ok_so, refuses_so}
use Rattle.cl_file.proofs.Chain.{needed_there, needed_absent}
use Rattle.cl_file.proofs.member.AnyMember.read.Goals as goal

pub returns-in-Some-clause-found : goal.returns-in-Some-clause-found
returns-in-Some-clause-found g c v = ok_so c.read_at.result (λ t h. needed_there _ _ _ _ _ _ c.in-Some.ensures ∙ h) (c.read_at.ensures.found v)

pub returns-in-Some-clause-broken : goal.returns-in-Some-clause-broken
returns-in-Some-clause-broken g c v = refuses_so c.read_at.result (λ r h. needed_there _ _ _ _ _ _ c.in-Some.ensures ∙ h) (c.read_at.ensures.broken v)

pub returns-in-None-clause-broken : goal.returns-in-None-clause-broken
returns-in-None-clause-broken g c v = refused_so c.field.result _ _ (λ r h. needed_absent _ _ _ _ _ c.in-None.ensures ∙ ap Err h) c.field.ensures
