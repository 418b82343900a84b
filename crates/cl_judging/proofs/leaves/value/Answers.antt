use Rattle.std.proofs.Common.{◌∙◌}
use Rattle.cl_judging.proofs.Atoms.{value_found}
use Rattle.cl_judging.proofs.leaves.value.Goals as goal

pub returns-clause-found : goal.returns-clause-found
returns-clause-found c = value_found c.args.ruled c.conclude-concluded.result c.args.span c.finish.result (rw (c.deref.ensures.value ∙ c.new-parts.ensures.items) at c.conclude-concluded.ensures) (λ G. (rw c.new-parts.ensures.items at c.finish.ensures.found) G (c.requires.goes G.version))
