use Rattle.std.proofs.Common.{take}
use Rattle.cl_audit_steps.specs.Places.{ArePlaces, form_names}
use Rattle.cl_audit_steps.proofs.forms.places_of.Given as goal

abbrev pub invariant-loop-place : goal.invariant-loop-place
invariant-loop-place l = ArePlaces (form_names (take l.place l.forms)) l.places.entries
