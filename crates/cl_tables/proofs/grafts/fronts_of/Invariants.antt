use Rattle.std.proofs.Common.{◌≡◌, ◌-◌, ℕ, List, length, take}
use Rattle.std.specs.List.{list_any}
use Rattle.cl_tables.specs.Spots.{is_entry_at, begins_so}
use Rattle.cl_tables.proofs.grafts.fronts_of.Given as goal

abbrev pub invariant-loop-i : goal.invariant-loop-i
invariant-loop-i l = (key : List ℕ) → begins_so l.fronts.items key ≡ list_any (is_entry_at key) (take l.i l.spots)

abbrev pub decreases-loop-i : goal.decreases-loop-i
decreases-loop-i l = length l.spots - l.i
