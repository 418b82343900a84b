use Rattle.std.proofs.Common.{ap}
use Rattle.cl_state.specs.Stack.{Stack}
use Rattle.cl_audit_steps.specs.Seen.{seen}
use Rattle.cl_audit_steps.proofs.DataLaws.{inserted, kept_below}
use Rattle.cl_audit_steps.proofs.data.put_new_entry.Goals as goal

pub returns : goal.returns
returns c outer = record {
  done = λ take enter. inserted (seen c.args.scope.now outer) c.args.name.now c.args.key c.args.value _ _ c.args.world.now.stack.top _ c.in_ok-inserted.ensures.found c.bool_value.ensures (λ h. ap (λ (k : Stack). k.top) (c.in_ok-inserted.ensures.done h)) (λ h. ap (λ (k : Stack). k.top) (c.in_ok-inserted.ensures.there h));
  below = kept_below c.in_ok-inserted.inserted _ _ (λ h. ap (λ (k : Stack). k.below) (c.in_ok-inserted.ensures.done h)) (λ h. ap (λ (k : Stack). k.below) (c.in_ok-inserted.ensures.there h));
}
