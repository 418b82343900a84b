use Rattle.std.proofs.Common.{sym, ap, ◌∙◌}
use Rattle.cl_meaning.specs.Limits.{limited}
use Rattle.cl_frames.specs.Seen.{scope}
use Rattle.cl_frames.proofs.Steps.{ends_so, native_ends}
use Rattle.cl_frames.proofs.TokenLaws
use Rattle.cl_steps.proofs.tokens.act.Goals as goal

pub returns-in-Some-clause-meant : goal.returns-in-Some-clause-meant
returns-in-Some-clause-meant c p =
    ends_so _ _ _ _ _ (ap (limited _ _) (TokenLaws.act_of_other (scope c.args.context.now c.args.names.now) _ _ _ (sym c.sender_refusal.ensures ∙ c.in-Some.is))) (native_ends _ _ _ _ _ c.refused.ensures)

pub returns-in-None-clause-meant : goal.returns-in-None-clause-meant
returns-in-None-clause-meant c p =
    ends_so _ _ _ _ _ (ap (limited _ _) (TokenLaws.act_of_sender (scope c.args.context.now c.args.names.now) _ _ (sym c.sender_refusal.ensures ∙ c.in-None.is))) (c.act_there.ensures.meant _ _)
