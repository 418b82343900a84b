-- How a ghost variable stores the stack of a world.
use Rattle.std.specs.Prelude.{ℕ, List, refl}
use Rattle.std.specs.Coded.{Coded, code_by, coded×, coded_ℕ, coded_list}
use Rattle.cl_events.specs.State.{State}
use Rattle.cl_tables.specs.Codes.{state_code}
use Rattle.cl_state.specs.Stack.{Stack, Seen}

abbrev pub stack_code : Coded Stack
stack_code = code_by (State × List State) (coded× state_code (coded_list state_code)) (λ s. (s.top, s.below)) (λ p. record { top = p.0; below = p.1 }) (λ _. refl)

abbrev pub seen_code : Coded Seen
seen_code = code_by (Stack × ℕ) (coded× stack_code coded_ℕ) (λ s. (s.stack, s.spare_layers)) (λ p. record { stack = p.0; spare_layers = p.1 }) (λ _. refl)
