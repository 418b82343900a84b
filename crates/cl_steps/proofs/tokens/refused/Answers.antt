use Rattle.std.proofs.Common.{false}
use Rattle.cl_values.specs.Computed.{Gives}
use Rattle.cl_frames.proofs.TokenLaws
use Rattle.cl_steps.proofs.tokens.refused.Goals as goal

pub returns : goal.returns
returns c =
    TokenLaws.refusal_made _ _ _ _ c.uint_value.ensures c.from.ensures (c.computed.ensures (Gives (Rattle.cl_values.specs.Tree.ResponseV false c.uint_value.result)) c.response.ensures)
