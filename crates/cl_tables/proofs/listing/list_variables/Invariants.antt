use Rattle.std.specs.Vec.Iter.{into_iter_items}
use Rattle.std.specs.List.{AllByRecursion as ByRecursion}
use Rattle.cl_tables.specs.Variables.{IsPlaceKey}
use Rattle.cl_tables.specs.RowParts.{IsVariableRow}
use Rattle.cl_tables.proofs.RowLists.{Underway}
use Rattle.cl_tables.proofs.listing.list_variables.Given as goal

abbrev pub invariant-loop-key : goal.invariant-loop-key
invariant-loop-key l = record {
  made : Underway IsVariableRow l.fn.rows.items (into_iter_items l.key-iterator) l.initial.out.items l.out.items;
  spelled : ByRecursion (λ e. IsPlaceKey e.0) (into_iter_items l.key-iterator);
}
