use Rattle.std.proofs.Common.{◌≡◌, ℕ, List, [], ◌∷◌, take}
use Rattle.cl_forms.specs.Names.{places_from}
use Rattle.cl_order.specs.Index.{under}
use Rattle.cl_order.proofs.index.index.Given as goal

abbrev pub invariant-loop-place : goal.invariant-loop-place
invariant-loop-place l = (x : List ℕ) → under l.index x ≡ places_from 0 (x ∷ []) (take l.place l.forms)
