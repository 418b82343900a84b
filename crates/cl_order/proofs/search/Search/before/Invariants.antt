use Rattle.std.proofs.Common.{◌≡◌, drop}
use Rattle.cl_forms.specs.Order.{part_from}
use Rattle.cl_order.specs.Search.{places_on}
use Rattle.cl_order.proofs.search.Search.before.Given as goal

abbrev pub invariant-loop-i : goal.invariant-loop-i
invariant-loop-i l = part_from l.place (places_on (drop l.i l.self.path.items)) ≡ part_from l.place (places_on l.self.path.items)
