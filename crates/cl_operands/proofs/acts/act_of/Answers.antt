use Rattle.std.proofs.Common.{[], sym, ap, ◌∙◌}
use Rattle.cl_meaning.specs.Tokens.{act_of}
use Rattle.cl_operands.proofs.ActLaws
use Rattle.cl_operands.proofs.acts.act_of.Goals as goal

pub returns-in-SendStx : goal.returns-in-SendStx
returns-in-SendStx c = c.send_stx.ensures ∙ ActLaws.send_stx_by [] c.args.values.items ∙ sym (ActLaws.send_stx_by c.args.token.now c.args.values.items) ∙ ap (λ n. act_of n c.args.token.now c.args.values.items) (sym c.in-SendStx.is)

pub returns-in-BurnStx : goal.returns-in-BurnStx
returns-in-BurnStx c = c.burn_stx.ensures ∙ ActLaws.burn_stx_by [] c.args.values.items ∙ sym (ActLaws.burn_stx_by c.args.token.now c.args.values.items) ∙ ap (λ n. act_of n c.args.token.now c.args.values.items) (sym c.in-BurnStx.is)
