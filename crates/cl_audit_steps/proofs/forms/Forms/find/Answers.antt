use Rattle.std.proofs.Common.{ap, ◌∙◌}
use Rattle.cl_meaning.specs.Deployed.{form_of}
use Rattle.cl_audit_steps.proofs.PlaceLaws.{form_found}
use Rattle.cl_audit_steps.proofs.forms.Forms.find.Goals as goal

pub returns : goal.returns
returns c =
    form_found c.args.name.now c.self.inside.forms.items _ c.self.inside.places.entries _ c.deref.ensures.value c.form_under.ensures c.self.invariant ∙ ap (form_of c.args.name.now) c.self.view_is
