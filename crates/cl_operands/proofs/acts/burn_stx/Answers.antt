use Rattle.std.proofs.Common.{[], sym, ap, ◌∙◌}
use Rattle.std.specs.Prelude.{option_map}
use Rattle.cl_events.specs.declared.event.EventKind.TheVariants.{StxBurn}
use Rattle.cl_operands.proofs.ActLaws
use Rattle.cl_operands.proofs.acts.burn_stx.Goals as goal

pub returns-in-Some : goal.returns-in-Some
returns-in-Some c = sym (ActLaws.burn_stx_by [] c.args.values.items ∙ ap (option_map (λ r. StxBurn r.0 r.1)) (sym c.amount_and_one.ensures ∙ c.in-Some.is))

pub returns-in-None : goal.returns-in-None
returns-in-None c = sym (ActLaws.burn_stx_by [] c.args.values.items ∙ ap (option_map (λ r. StxBurn r.0 r.1)) (sym c.amount_and_one.ensures ∙ c.in-None.is))
