use Rattle.std.proofs.Common.{drop}
use Rattle.cl_costs.specs.Tables.{function_of}
use Rattle.cl_replies.specs.Kept.{AcceptedSoFar, Stand}
use Rattle.cl_replies.proofs.judge.judge_all.Given as goal

abbrev pub invariant-loop-source : goal.invariant-loop-source
invariant-loop-source l = record {
  accepted : AcceptedSoFar (function_of l.costs) l.sources (drop l.source-index l.sources) l.text.items l.accepted.deployed.contracts;
  stand : Stand (function_of l.costs) l.accepted;
}
