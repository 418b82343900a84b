use Rattle.std.proofs.Common.{ℕ, List, Ok, sym, subst, ap, ◌∙◌}
use Rattle.cl_forms.specs.Order.{IsGoodOrder, Visited}
use Rattle.cl_check.proofs.reading.ordered.Goals as goal

pub returns-clause-computed : goal.returns-clause-computed
returns-clause-computed c = c.in-Ok.ensures.computed ∙ ap (λ (ns : List ℕ). let all : Visited = Ok ns in all) (sym (c.in_ok-wide.ensures ∙ c.deref.ensures.value))

pub returns-clause-good : goal.returns-clause-good
returns-clause-good c = subst (λ (ns : List ℕ). IsGoodOrder c.args.forms.now ns) (sym (c.in_ok-wide.ensures ∙ c.deref.ensures.value)) c.in-Ok.ensures.good
