use Rattle.std.proofs.Common.{◌≡◌, ◌≤◌, length, take, drop, filter_map}
use Rattle.cl_rules.specs.ControlShapes.{bound_name}
use Rattle.cl_judging.specs.Seen.{shadowed_in}
use Rattle.cl_judging.proofs.scope.binds_taken.Given as goal

abbrev pub invariant-loop-item : goal.invariant-loop-item
invariant-loop-item l = record {
  found : shadowed_in l.ctx l.scope.entries (filter_map bound_name (drop l.item-index l.items)) ≡ shadowed_in l.ctx l.initial.scope.entries (filter_map bound_name l.items);
  kept : take (length l.initial.scope.entries) l.scope.entries ≡ l.initial.scope.entries;
  longer : length l.initial.scope.entries ≤ length l.scope.entries;
}
