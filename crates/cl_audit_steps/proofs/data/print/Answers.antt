use Rattle.std.proofs.Common.{refl, ap}
use Rattle.cl_state.specs.Stack.{Stack}
use Rattle.cl_audit_steps.specs.Seen.{seen}
use Rattle.cl_audit_steps.proofs.DataLaws.{printed}
use Rattle.cl_audit_steps.proofs.ValueLaws.{charged_as}
use Rattle.cl_audit_steps.proofs.data.print.Goals as goal

pub returns : goal.returns
returns c outer = record {
  done = λ take enter. charged_as _ _ _ _ _ _ _ (seen c.args.scope.now outer) take enter _ refl c.of-charge.ensures (printed (seen c.args.scope.now outer) c.args.value _ _ _ c.in_ok-copy.ensures (ap (λ (k : Stack). k.top) c.in_ok-print.ensures.done)) c.charged_end.ensures;
  below = ap (λ (k : Stack). k.below) c.in_ok-print.ensures.done;
}
