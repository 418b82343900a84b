use Rattle.std.proofs.Common.{refl, sym, ap, ◌∙◌}
use Rattle.cl_state.specs.Stack.{Stack}
use Rattle.cl_audit_steps.specs.Seen.{seen}
use Rattle.cl_audit_steps.proofs.DataLaws.{written, not_written}
use Rattle.cl_audit_steps.proofs.ValueLaws.{charged_as}
use Rattle.cl_audit_steps.proofs.data.set_variable.Goals as goal

pub returns-then-found : goal.returns-then-found
returns-then-found c outer =
    let done = c.in_ok-found.ensures.done c.if-found.true in
    record {
      done = λ take enter. charged_as _ _ _ _ _ _ _ (seen c.args.scope.now outer) take enter _ refl c.of-charge.ensures (written (seen c.args.scope.now outer) c.args.name.now _ _ c.args.world.now.stack.top _ c.bool_value.ensures (sym c.if-found.true ∙ c.in_ok-found.ensures.found) (ap (λ (k : Stack). k.top) done)) c.charged_end.ensures;
      below = ap (λ (k : Stack). k.below) done;
    }

pub returns-else-found : goal.returns-else-found
returns-else-found c outer =
    let same = c.in_ok-found.ensures.absent c.if-found.false in
    record {
      done = λ take enter. charged_as _ _ _ _ _ _ _ (seen c.args.scope.now outer) take enter _ refl c.of-charge.ensures (not_written (seen c.args.scope.now outer) c.args.name.now _ c.args.world.now.stack.top _ (sym c.if-found.false ∙ c.in_ok-found.ensures.found) (ap (λ (k : Stack). k.top) same)) c.charged_end-else-found.ensures;
      below = ap (λ (k : Stack). k.below) same;
    }
