use Rattle.std.proofs.Common.{◌≡◌, ℕ, List, [], ◌∷◌}
use Rattle.cl_c32.specs.declared.principal.Principal.{Principal}
use Rattle.cl_contracts.specs.Seen.{deployed_seen}
use Rattle.cl_touch.specs.Uses.{of_own}
use Rattle.cl_footprint.specs.Gathering.{gathered}
use Rattle.cl_footprint.proofs.Visited.{IsThrough}
use Rattle.cl_footprint.proofs.footprint.gather.Given as goal

abbrev pub invariant-loop-index : goal.invariant-loop-index
invariant-loop-index l =
    (p : Principal) (f : List ℕ) → gathered l.initial.reached.keys l.initial.touched.keys l.initial.written.keys ≡ gathered (of_own p f ∷ []) [] [] →
    IsThrough (deployed_seen l.deployed) p f l.index (gathered l.reached.keys l.touched.keys l.written.keys)
