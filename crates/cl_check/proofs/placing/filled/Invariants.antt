use Rattle.std.proofs.Common.{◌≡◌, ◌+◌, drop, length, map, Option, None}
use Rattle.std.specs.Vec.Iter.{into_iter_items}
use Rattle.cl_forms.specs.Forms.{Form}
use Rattle.cl_code.specs.declared.definition.Definition.{Definition}
use Rattle.cl_check.specs.Placing.{put_all}
use Rattle.cl_check.proofs.placing.filled.Given as goal

abbrev pub invariant-loop-definition : goal.invariant-loop-definition
invariant-loop-definition l = record {
  count : l.done + length (into_iter_items l.definition-iterator) ≡ length l.fn.order;
  room : length l.slots.items ≡ length l.fn.forms;
  put : put_all l.slots.items (drop l.done l.fn.order) (into_iter_items l.definition-iterator) ≡ put_all (map (λ (f : Form). let o : Option Definition = None in o) l.fn.forms) l.fn.order l.fn.definitions.items;
}
