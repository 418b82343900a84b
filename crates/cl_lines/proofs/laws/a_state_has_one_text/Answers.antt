use Rattle.cl_lines.proofs.StateText.{one_text}
use Rattle.cl_lines.proofs.laws.a_state_has_one_text.Goals as goal

pub returns : goal.returns
returns c = one_text
