use Rattle.cl_newness.proofs.NoTokensMade.{top_makes_none}
use Rattle.cl_newness.proofs.evaluations_make_no_tokens.Goals as goal

pub returns : goal.returns
returns c = top_makes_none
