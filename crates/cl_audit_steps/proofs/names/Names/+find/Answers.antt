use Rattle.std.proofs.Common.{sym, ap, ◌∙◌}
use Rattle.std.specs.Option.{option_or}
use Rattle.cl_meaning.specs.Deployed.{value_of}
use Rattle.cl_audit_steps.specs.Named.{Named, named}
use Rattle.cl_audit_steps.proofs.NameLaws.{value_in_both}
use Rattle.cl_audit_steps.proofs.names.Names.+find.Goals as goal

pub returns-in-Some : goal.returns-in-Some
returns-in-Some t c =
    c.or_among.ensures ∙ ap (λ o. option_or o (value_of c.args.name.now c.self.inside.own.now)) c.find.ensures ∙ value_in_both c.args.name.now c.in-Some.outer.now.values c.self.inside.own.now
    ∙ ap (value_of c.args.name.now) (ap (λ (n : Named). n.values) (ap (λ o. named o c.self.inside.own.now) (sym c.in-Some.is) ∙ c.self.view_is))
