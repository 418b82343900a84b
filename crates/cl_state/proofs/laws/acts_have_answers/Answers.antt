use Rattle.cl_state.proofs.TokenActs.{answered}
use Rattle.cl_state.proofs.laws.acts_have_answers.Goals as goal

pub returns : goal.returns
returns c = answered
