use Rattle.std.proofs.Common.{[], ap, ◌∙◌}
use Rattle.cl_meaning.specs.Deployed.{function_of}
use Rattle.cl_meaning.specs.Scope.{home}
use Rattle.cl_meaning.specs.Sequences.{by_row}
use Rattle.cl_audit_steps.specs.Seen.{seen}
use Rattle.cl_audit_steps.proofs.scope.Scope.callee.Goals as goal

pub returns-in-Some : goal.returns-in-Some
returns-in-Some c = c.native_given.ensures (function_of c.args.name.now (home (seen c.args.self.now []))) ∙ ap (λ r. by_row c.args.span r (function_of c.args.name.now (home (seen c.args.self.now [])))) c.in-Some.ensures

pub returns-in-None : goal.returns-in-None
returns-in-None c = c.own.ensures ∙ ap (λ r. by_row c.args.span r (function_of c.args.name.now (home (seen c.args.self.now [])))) c.in-None.ensures
