use Rattle.std.proofs.Common.{subst}
use Rattle.std.specs.Vec.Iter.{into_iter_items}
use Rattle.std.specs.List.{AllByRecursion as ByRecursion}
use Rattle.cl_tables.specs.Variables.{IsPlaceKey}
use Rattle.cl_tables.specs.RowParts.{IsVariableRow}
use Rattle.cl_tables.proofs.RowLists.{underway_more}
use Rattle.cl_tables.proofs.listing.list_variables.Goals as goal

pub loop-key-preserved : goal.loop-key-preserved
loop-key-preserved c = record {
  made = underway_more IsVariableRow c.args.rows.items (into_iter_items c.loop-key.key-iterator) (into_iter_items c.next.new.self) (c.in-Some.key, c.in-Some.held) c.args.out.now.items c.loop-key.out.items c.push.new.self.items c.in_ok-row.row
      c.loop-key.invariant.made c.in-Some.ensures.steps.0 (subst (λ v. IsVariableRow (c.in-Some.key, v) c.in_ok-row.row) c.into_value.ensures c.in_ok-row.ensures) c.in_ok-push.ensures.items;
  spelled = (subst (ByRecursion (λ e. IsPlaceKey e.0)) c.in-Some.ensures.steps.0 c.loop-key.invariant.spelled).1;
}
