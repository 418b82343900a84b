use Rattle.std.proofs.Common.{Option, sym, ap, ◌∙◌}
use Rattle.std.specs.Option.{option_or}
use Rattle.cl_meaning.specs.Deployed.{value_of}
use Rattle.cl_frames.proofs.Laws
use Rattle.cl_frames.proofs.names.Names.+find.Goals as goal

pub returns-in-Some : goal.returns-in-Some
returns-in-Some t c =
    c.or_first_under.ensures ∙ ap (λ o. Rattle.std.specs.Option.option_or o (Rattle.cl_meaning.specs.Deployed.value_of c.args.name.now (Rattle.cl_frames.specs.Named.own_seen c.self.inside.own))) c.find.ensures ∙ Laws.value_in_both c.args.name.now c.in-Some.outer.now.values (Rattle.cl_frames.specs.Named.own_seen c.self.inside.own) ∙ ap (Rattle.cl_meaning.specs.Deployed.value_of c.args.name.now) (ap (λ (n : Rattle.cl_frames.specs.Named.Named). n.values) (ap (λ o. Rattle.cl_frames.specs.Named.named o (Rattle.cl_frames.specs.Named.own_seen c.self.inside.own)) (sym c.in-Some.is) ∙ c.self.view_is))

pub returns-in-None : goal.returns-in-None
returns-in-None t c =
    c.first_under.ensures ∙ ap (Rattle.cl_meaning.specs.Deployed.value_of c.args.name.now) (ap (λ (n : Rattle.cl_frames.specs.Named.Named). n.values) (ap (λ o. Rattle.cl_frames.specs.Named.named o (Rattle.cl_frames.specs.Named.own_seen c.self.inside.own)) (sym c.in-None.is) ∙ c.self.view_is))
