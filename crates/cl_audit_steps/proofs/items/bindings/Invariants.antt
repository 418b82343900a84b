use Rattle.std.proofs.Common.{◌≡◌, drop}
use Rattle.cl_forms.specs.Shapes.{bindings_of}
use Rattle.cl_audit_steps.proofs.ItemLaws.{onto}
use Rattle.cl_audit_steps.proofs.items.bindings.Given as goal

abbrev pub invariant-loop-item : goal.invariant-loop-item
invariant-loop-item l = onto l.fields.items (bindings_of (drop l.item-index l.items)) ≡ bindings_of l.items
