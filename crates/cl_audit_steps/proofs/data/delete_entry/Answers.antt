use Rattle.std.proofs.Common.{refl, ap, ◌∙◌}
use Rattle.cl_state.specs.Stack.{Stack}
use Rattle.cl_audit_steps.specs.Seen.{seen}
use Rattle.cl_audit_steps.proofs.DataLaws.{has_it, has_none, deleted}
use Rattle.cl_audit_steps.proofs.ValueLaws.{charged_as}
use Rattle.cl_audit_steps.proofs.data.delete_entry.Goals as goal

pub returns-then-not-has_map : goal.returns-then-not-has_map
returns-then-not-has_map c outer = record { done = λ take enter. charged_as _ _ _ _ _ _ _ (seen c.args.scope.now outer) take enter _ refl c.of-charge.ensures (has_none (seen c.args.scope.now outer) c.args.name.now _ _ _ c.has_map.ensures c.if-not-has_map.true) c.charged_end.ensures; below = refl }

pub returns : goal.returns
returns c outer = record {
  done = λ take enter. charged_as _ _ _ _ _ _ _ (seen c.args.scope.now outer) take enter _ refl c.of-charge.ensures (has_it (seen c.args.scope.now outer) c.args.name.now _ _ _ c.has_map.ensures c.if-not-has_map.false ∙ deleted (seen c.args.scope.now outer) c.args.name.now c.args.key _ _ c.args.world.now.stack.top _ c.in_ok-was_there.ensures.found c.bool_value.ensures (ap (λ (k : Stack). k.top) c.in_ok-was_there.ensures.done)) c.charged_end-2.ensures;
  below = ap (λ (k : Stack). k.below) c.in_ok-was_there.ensures.done;
}
