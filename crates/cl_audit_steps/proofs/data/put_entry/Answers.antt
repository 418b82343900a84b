use Rattle.std.proofs.Common.{ap}
use Rattle.cl_state.specs.Stack.{Stack}
use Rattle.cl_audit_steps.specs.Seen.{seen}
use Rattle.cl_audit_steps.proofs.DataLaws.{put_in}
use Rattle.cl_audit_steps.proofs.data.put_entry.Goals as goal

pub returns : goal.returns
returns c outer = record {
  done = λ take enter. put_in (seen c.args.scope.now outer) c.args.name.now c.args.key c.args.value _ c.args.world.now.stack.top _ c.bool_value.ensures (ap (λ (k : Stack). k.top) c.in_ok-put_entry.ensures.done);
  below = ap (λ (k : Stack). k.below) c.in_ok-put_entry.ensures.done;
}
