-- The clause of what is done on a stack of states: the answer is that of the form on the top state, and no state below changes.
use Rattle.std.specs.Prelude.{◌≡◌, Result, Ok, Err}
use Rattle.cl_values.specs.Tree.{Tree as Val}
use Rattle.cl_events.specs.State.{State}
use Rattle.cl_state.specs.Stack.{Stack}
use Rattle.cl_meaning.specs.Answers.{Answer}
use Rattle.cl_meaning.specs.Scope.{Scope, Take, Enter}
use Rattle.cl_audit_steps.specs.declared.step.Last.{Last}
use Rattle.cl_audit_steps.specs.declared.step.End.{End}
use Rattle.cl_audit_steps.specs.Steps.{last_step, end_step}

abbrev pub IsDone : {E : Type 0} → Scope → (State → Answer Val) → State → Result End E → State → Type 0
IsDone S form old (Ok x) new = (take : Take) (enter : Enter) → form old ≡ end_step take enter S x new
IsDone S form old (Err e) new = Unit {0}

pub record Does {E : Type 0} (S : Scope) (form : State → Answer Val) (old : Stack) (result : Result End E) (new : Stack) : Type 0 where
  pub done : IsDone S form old.top result new.top
  pub below : new.below ≡ old.below

-- the same of an end with no charge before it
abbrev pub IsDoneLast : {E : Type 0} → Scope → (State → Answer Val) → State → Result Last E → State → Type 0
IsDoneLast S form old (Ok l) new = (take : Take) (enter : Enter) → form old ≡ last_step take enter S l new
IsDoneLast S form old (Err e) new = Unit {0}

pub record DoesLast {E : Type 0} (S : Scope) (form : State → Answer Val) (old : Stack) (result : Result Last E) (new : Stack) : Type 0 where
  pub done : IsDoneLast S form old.top result new.top
  pub below : new.below ≡ old.below

-- in each scope and state
abbrev pub IsGiven : {E : Type 0} → (State → Answer Val) → Result Last E → Type 0
IsGiven form (Ok l) = (S : Scope) (take : Take) (enter : Enter) (s : State) → form s ≡ last_step take enter S l s
IsGiven form (Err e) = Unit {0}
