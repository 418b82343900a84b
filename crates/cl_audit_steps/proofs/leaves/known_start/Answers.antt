use Rattle.cl_audit_steps.specs.Seen.{seen}
use Rattle.cl_audit_steps.proofs.FormLaws.{starts_eq}
use Rattle.cl_audit_steps.proofs.LeafLaws.{bound_known, not_bound}
use Rattle.cl_audit_steps.proofs.leaves.known_start.Goals as goal

pub returns-in-Some : goal.returns-in-Some
returns-in-Some c S = starts_eq S _ _ _ (λ take enter s. bound_known (seen c.args.scope.now c.args.names.now.values) c.args.name.now _ s c.in-Some.ensures) (c.reads.ensures S)

pub returns-in-None : goal.returns-in-None
returns-in-None c S = starts_eq S _ _ _ (λ take enter s. not_bound (seen c.args.scope.now c.args.names.now.values) c.args.name.now s c.in-None.ensures) (c.constant_start.ensures S)
