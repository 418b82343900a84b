use Rattle.std.proofs.Common.{◌≡◌, [], ◌∷◌}
use Rattle.cl_order.specs.Search.{IsSearch, answer, work}
use Rattle.cl_order.proofs.search.Search.visit.Given as goal

abbrev pub invariant-path : goal.invariant-path
invariant-path l = record { sound : IsSearch l.forms l.self; same : answer l.forms l.fn.self (l.place ∷ []) ≡ answer l.forms l.self [] }

abbrev pub decreases-path : goal.decreases-path
decreases-path l = work l.forms l.self
