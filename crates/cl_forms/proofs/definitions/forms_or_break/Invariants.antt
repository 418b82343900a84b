use Rattle.std.proofs.Common.{◌≡◌, ◌++◌, length, map, Some}
use Rattle.std.specs.Vec.Iter.{into_iter_items}
use Rattle.indexmap.specs.IndexMap.{get}
use Rattle.cl_forms.specs.Names.{same}
use Rattle.cl_forms.specs.Looks.{plain_entry, first_broken, form_at}
use Rattle.cl_forms.proofs.definitions.forms_or_break.Given as goal

abbrev pub invariant-loop-entry : goal.invariant-loop-entry
invariant-loop-entry l = record {
  unbroken : first_broken l.names.version (get same l.names.first) (length l.forms.items) (map plain_entry (into_iter_items l.entry-iterator)) ≡ first_broken l.names.version (get same l.names.first) 0 (map plain_entry l.fn.entries.items);
  forms_are : map Some l.forms.items ++ map form_at (map plain_entry (into_iter_items l.entry-iterator)) ≡ map form_at (map plain_entry l.fn.entries.items);
}
