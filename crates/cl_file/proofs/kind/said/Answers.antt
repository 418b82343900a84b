use Rattle.std.proofs.Common.{Err, ◌∙◌, sym, ap}
use Rattle.cl_types.proofs.Faults.{refused_so}
use Rattle.cl_file.proofs.Chain.{said_some, said_none}
use Rattle.cl_file.proofs.kind.said.Goals as goal

pub returns-in-Some-clause-found : goal.returns-in-Some-clause-found
returns-in-Some-clause-found g c = said_some _ c.args.says c.in-Some.t (sym c.in-Some.is)

pub returns-in-None-clause-broken : goal.returns-in-None-clause-broken
returns-in-None-clause-broken g c = refused_so c.bad_member.result _ _ (λ r h. said_none _ c.args.says (sym c.in-None.is) ∙ ap Err h) c.bad_member.ensures
