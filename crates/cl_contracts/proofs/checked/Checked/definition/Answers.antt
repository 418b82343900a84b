use Rattle.std.proofs.Common.{ap, ◌∙◌}
use Rattle.std.specs.Prelude.{option_map}
use Rattle.cl_meaning.specs.Deployed.{form_of}
use Rattle.cl_contracts.specs.declared.parts.Parts.{Parts}
use Rattle.cl_contracts.specs.Seen.{definition_under, forms_of, kind_at}
use Rattle.cl_contracts.proofs.Places.{form_under, lent}
use Rattle.cl_contracts.proofs.checked.Checked.definition.Goals as goal

pub returns-clause-there : goal.returns-clause-there
returns-clause-there c = c.definition_under.ensures ∙ ap (definition_under c.args.name.now) c.self.view_is

pub returns-clause-form : goal.returns-clause-form
returns-clause-form c =
    lent kind_at c.definition_under.result ∙ ap (option_map kind_at) c.definition_under.ensures ∙ form_under c.args.name.now c.self.inside.parts c.self.invariant.0
    ∙ ap (λ (p : Parts). form_of c.args.name.now (forms_of p)) c.self.view_is
