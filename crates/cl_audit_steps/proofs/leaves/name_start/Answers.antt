use Rattle.std.proofs.Common.{◌∙◌}
use Rattle.cl_audit_steps.specs.Seen.{seen}
use Rattle.cl_audit_steps.proofs.FormLaws.{starts_eq}
use Rattle.cl_audit_steps.proofs.LeafLaws.{keyword_named, no_keyword}
use Rattle.cl_audit_steps.proofs.leaves.name_start.Goals as goal

pub returns-in-Some : goal.returns-in-Some
returns-in-Some c S take enter s = keyword_named (seen c.args.scope.now c.args.names.now.values) c.args.name.now _ s c.in-Some.ensures ∙ c.keyword_start.ensures S take enter s

pub returns-in-None : goal.returns-in-None
returns-in-None c S = starts_eq S _ _ _ (λ take enter s. no_keyword (seen c.args.scope.now c.args.names.now.values) c.args.name.now s c.in-None.ensures) (c.known_start.ensures S)
