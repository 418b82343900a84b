use Rattle.std.proofs.Common.{ap}
use Rattle.cl_state.specs.Stack.{Stack}
use Rattle.cl_frames.proofs.Steps.{gives}
use Rattle.cl_frames.proofs.Laws
use Rattle.cl_steps.proofs.data.put_entry.Goals as goal

pub returns-clause-meant : goal.returns-clause-meant
returns-clause-meant c p =
    gives _ _ _ _ _ _ c.bool_value.ensures (ap (λ (w : Stack). w.top) c.in_ok-put_entry.ensures.done)
