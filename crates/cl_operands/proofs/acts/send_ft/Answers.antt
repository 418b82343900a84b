use Rattle.std.proofs.Common.{sym, ap, ◌∙◌}
use Rattle.std.specs.Prelude.{option_map}
use Rattle.cl_events.specs.declared.event.EventKind.TheVariants.{FtTransfer}
use Rattle.cl_operands.proofs.ActLaws
use Rattle.cl_operands.proofs.acts.send_ft.Goals as goal

pub returns-in-Some : goal.returns-in-Some
returns-in-Some c = sym (ActLaws.send_ft_by c.args.token.now c.args.values.items ∙ ap (option_map (λ r. FtTransfer c.args.token.now r.0 r.1.0 r.1.1)) (sym c.amount_and_two.ensures ∙ c.in-Some.is))

pub returns-in-None : goal.returns-in-None
returns-in-None c = sym (ActLaws.send_ft_by c.args.token.now c.args.values.items ∙ ap (option_map (λ r. FtTransfer c.args.token.now r.0 r.1.0 r.1.1)) (sym c.amount_and_two.ensures ∙ c.in-None.is))
