use Rattle.cl_values.specs.Computed.{Gives}
use Rattle.cl_frames.proofs.TokenLaws
use Rattle.cl_steps.proofs.tokens.some_principal.Goals as goal

pub returns : goal.returns
returns c costs p s =
    TokenLaws.some_ends _ _ _ _ _ _ c.is_valid_principal.ensures c.principal_value.ensures (c.computed.ensures (Gives (Rattle.cl_values.specs.Tree.SomeV c.principal_value.result)) c.some.ensures)
