use Rattle.cl_replies.specs.Kept.{IsCounted}
use Rattle.cl_replies.proofs.generated.run_workload.Given as goal

abbrev pub invariant-loop : goal.invariant-loop
invariant-loop l = record {
  counted : IsCounted l.fn.seed l.counter l.tally l.draws l.node;
}
