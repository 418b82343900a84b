use Rattle.cl_frames.proofs.Steps.{ends_so, known_some, known_none}
use Rattle.cl_steps.proofs.tokens.act_if.Goals as goal

pub returns-in-Some-clause-meant : goal.returns-in-Some-clause-meant
returns-in-Some-clause-meant c p =
    ends_so _ _ _ _ _ (known_some _ _ _ _ _ _ c.in-Some.is) (c.act.ensures.meant p)

pub returns-in-None-clause-meant : goal.returns-in-None-clause-meant
returns-in-None-clause-meant c p =
    known_none _ _ _ _ _ c.in-None.is
