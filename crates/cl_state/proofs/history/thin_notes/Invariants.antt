use Rattle.std.proofs.Common.{◌≡◌, ◌≤◌, ◌-◌, List, length, take, drop}
use Rattle.cl_tables.specs.declared.note.Note.{Note}
use Rattle.cl_tables.specs.Covering.{Thins}
use Rattle.cl_state.proofs.history.thin_notes.Given as goal

abbrev pub invariant-loop-next : goal.invariant-loop-next
invariant-loop-next l = record {
  within : l.kept ≤ l.next;
  least : l.next ≤ l.count;
  count : length l.notes.items ≡ l.count;
  thins : (q : List Note) → Thins l.low (take l.kept l.notes.items) (drop l.next l.notes.items) q → Thins l.low (take l.initial.kept l.fn.notes.items) (drop l.initial.kept l.fn.notes.items) q;
}

abbrev pub decreases-loop-next : goal.decreases-loop-next
decreases-loop-next l = l.count - l.next
