use Rattle.cl_judging.proofs.VerdictLaws.{native_judged}
use Rattle.cl_judging.proofs.verdicts.on_native.Goals as goal

pub returns : goal.returns
returns c row count fs same = native_judged c.args.native c.args.parts.now c.on_values.result c.on_values.ensures row count fs same
