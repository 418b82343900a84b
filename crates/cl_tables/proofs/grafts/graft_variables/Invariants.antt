use Rattle.std.proofs.Common.{◌≡◌, ◌-◌, length, take}
use Rattle.std.specs.List.{list_any}
use Rattle.cl_tables.specs.Spots.{is_variable_at, joined}
use Rattle.cl_tables.proofs.grafts.graft_variables.Given as goal

abbrev pub invariant-loop-i : goal.invariant-loop-i
invariant-loop-i l = l.table.content ≡ joined (λ key. list_any (is_variable_at key) (take l.i l.spots)) l.from.content l.old.content

abbrev pub decreases-loop-i : goal.decreases-loop-i
decreases-loop-i l = length l.spots - l.i
