use Rattle.std.proofs.Common.{ap, subst, ◌≡◌, true, ◌∙◌}
use Rattle.std.specs.Prelude.{IfSome, option_map, option_and_then}
use Rattle.cl_code.specs.Typed.{goes_by}
use Rattle.cl_meaning.specs.Deployed.{function_in}
use Rattle.cl_contracts.specs.declared.parts.Parts.{Parts}
use Rattle.cl_contracts.specs.Seen.{as_function, forms_of, function_seen, function_under}
use Rattle.cl_contracts.proofs.Going.{lent_goes}
use Rattle.cl_contracts.proofs.Places.{function_is, lent}
use Rattle.cl_contracts.proofs.checked.Checked.function.Goals as goal

pub returns-clause-there : goal.returns-clause-there
returns-clause-there c =
    c.as_function.ensures ∙ ap (option_and_then as_function) c.definition_under.ensures ∙ ap (function_under c.args.name.now) c.self.view_is

pub returns-clause-seen : goal.returns-clause-seen
returns-clause-seen c =
    lent function_seen c.as_function.result ∙ ap (option_map function_seen) (c.as_function.ensures ∙ ap (option_and_then as_function) c.definition_under.ensures)
    ∙ function_is c.args.name.now c.self.inside.parts c.self.invariant.0
    ∙ ap (λ (p : Parts). function_in c.args.name.now (forms_of p)) c.self.view_is

pub returns-clause-goes : goal.returns-clause-goes
returns-clause-goes c =
    subst (λ (p : Parts). IfSome c.as_function.result (λ f. goes_by p.version f.now.body ≡ true)) c.self.view_is
    (lent_goes c.args.name.now c.self.inside.parts c.as_function.result c.self.invariant.0 (c.as_function.ensures ∙ ap (option_and_then as_function) c.definition_under.ensures))
