use Rattle.std.proofs.Common.{true}
use Rattle.cl_values.specs.Computed.{Gives}
use Rattle.cl_frames.proofs.TokenLaws
use Rattle.cl_steps.proofs.tokens.done.Goals as goal

pub returns : goal.returns
returns c =
    TokenLaws.done_made _ _ c.bool_value.ensures (c.computed.ensures (Gives (Rattle.cl_values.specs.Tree.ResponseV true c.bool_value.result)) c.response.ensures)
