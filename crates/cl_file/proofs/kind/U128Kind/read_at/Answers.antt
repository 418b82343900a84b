use Rattle.std.proofs.Common.{◌∙◌, ap}
use Rattle.cl_file.specs.Paths.{below, said}
use Rattle.cl_file.proofs.Handed.{ok_so, refuses_so}
use Rattle.cl_file.proofs.kind.U128Kind.read_at.Goals as goal

pub returns-clause-found : goal.returns-clause-found
returns-clause-found c v = ok_so c.said.result (λ t h. ap (said (below c.args.path.now c.args.name.now)) (c.in_ok-says.ensures v) ∙ h) c.said.ensures.found

pub returns-clause-broken : goal.returns-clause-broken
returns-clause-broken c v = refuses_so c.said.result (λ r h. ap (said (below c.args.path.now c.args.name.now)) (c.in_ok-says.ensures v) ∙ h) c.said.ensures.broken
