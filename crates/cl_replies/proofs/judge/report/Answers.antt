use Rattle.std.proofs.Common.{subst, sym}
use Rattle.cl_costs.specs.Tables.{function_of}
use Rattle.cl_bound.specs.Known.{AreBounds}
use Rattle.cl_replies.specs.Kept.{Contracts}
use Rattle.cl_replies.proofs.judge.report.Goals as goal

pub judge_all-judged-requires-clause-stand : goal.judge_all-judged-requires-clause-stand
judge_all-judged-requires-clause-stand c = record {
  known = subst (λ (es : Contracts). AreBounds (function_of c.args.costs.now) es c.with_hash_key-2.result) (sym c.with_hash_key.ensures) (c.with_hash_key-2.ensures (function_of c.args.costs.now));
}
