use Rattle.std.proofs.Common.{Some, None, ap, ◌∙◌}
use Rattle.cl_meaning.specs.Deployed.{value_of}
use Rattle.cl_audit_steps.proofs.PlaceLaws.{value_found}
use Rattle.cl_audit_steps.proofs.named_values.NamedValues.find.Goals as goal

pub returns-in-Some : goal.returns-in-Some
returns-in-Some c =
    value_found c.args.name.now c.self.inside.values.items _ c.self.inside.places.entries (Some c.in-Some.pair.now) c.deref.ensures.value c.in-Some.ensures c.self.invariant
    ∙ ap (value_of c.args.name.now) c.self.view_is

pub returns-in-None : goal.returns-in-None
returns-in-None c =
    value_found c.args.name.now c.self.inside.values.items _ c.self.inside.places.entries None c.deref.ensures.value c.in-None.ensures c.self.invariant ∙ ap (value_of c.args.name.now) c.self.view_is
