use Rattle.std.proofs.Common.{sym, ap, ◌∙◌}
use Rattle.cl_meaning.specs.Answers.{give}
use Rattle.cl_audit_steps.specs.Steps.{owner_given}
use Rattle.cl_audit_steps.proofs.TokenLaws.{owner_at}
use Rattle.cl_audit_steps.proofs.tokens.owner_value.Goals as goal

pub returns-in-Some : goal.returns-in-Some
returns-in-Some c = owner_at _ _ _ c.in-Some.is c.some_principal.ensures

pub returns-in-None : goal.returns-in-None
returns-in-None c S take enter s = ap (λ o. owner_given o s) c.in-None.is ∙ sym (ap (λ v. give v s) c.none.ensures)
