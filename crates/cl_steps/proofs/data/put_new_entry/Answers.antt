use Rattle.std.proofs.Common.{refl, ap, ◌∙◌}
use Rattle.cl_state.specs.Stack.{Stack}
use Rattle.cl_meaning.specs.Limits.{limited}
use Rattle.cl_frames.specs.Seen.{scope}
use Rattle.cl_frames.proofs.Steps.{gives}
use Rattle.cl_frames.proofs.Laws
use Rattle.cl_steps.proofs.data.put_new_entry.Goals as goal

pub returns-clause-meant : goal.returns-clause-meant
returns-clause-meant c p =
    ap (limited _ _) (Laws.inserted_is (scope c.args.context.now c.args.names.now) c.args.name.now _ _ _ _ _ _ c.in_ok-inserted.ensures.found (λ h. ap (λ (w : Stack). w.top) (c.in_ok-inserted.ensures.done h)) (λ h. ap (λ (w : Stack). w.top) (c.in_ok-inserted.ensures.there h)))
    ∙ gives _ _ _ _ _ _ c.bool_value.ensures refl

pub returns-clause-below : goal.returns-clause-below
returns-clause-below c = Laws.same_below _ _ _ _ c.in_ok-inserted.ensures.done c.in_ok-inserted.ensures.there
