use Rattle.std.proofs.Common.{ap, ◌∙◌}
use Rattle.std.specs.Result.{result_ok}
use Rattle.hex.specs.Hex.{decode_sized}
use Rattle.cl_replies.proofs.Verified.{digest_found}
use Rattle.cl_replies.proofs.verify.digest_in.Goals as goal

pub returns : goal.returns
returns c = c.ok.ensures.value ∙ ap result_ok c.from_hex.ensures ∙ digest_found (decode_sized c.args.digits.now 32)
