use Rattle.std.proofs.Common.{None, ap, map, ◌∙◌}
use Rattle.cl_typing.specs.Branches.{response_row}
use Rattle.cl_typing.proofs.VerdictLaws.{row_concluded}
use Rattle.cl_judging.proofs.matches.on_response.Goals as goal

pub returns : goal.returns
returns c = row_concluded response_row None 0 c.args.parts.now _ c.match_response-ruled.result c.conclude.result (ap (map (λ t. t.now)) c.deref.ensures.value ∙ c.in_ok-types.ensures) c.match_response-ruled.ensures c.conclude.ensures
