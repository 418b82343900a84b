use Rattle.std.proofs.Common.{◌≡◌, map, take, None}
use Rattle.cl_check.proofs.placing.empty_slots.Given as goal

abbrev pub invariant-loop-form : goal.invariant-loop-form
invariant-loop-form l = l.slots.items ≡ map (λ _. None) (take l._form-index l.forms)
