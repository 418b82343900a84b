-- The heights of epochs, one after another.
use Rattle.std.proofs.Common.{◌≡◌, ℕ, suc, ◌<◌, List, [], ◌∷◌, ◌++◌, refl, arith}
use Rattle.cl_costs.specs.Schedules.{Epoch, RiseFrom}
use Rattle.cl_file.specs.Epochs.{last_height}

pub last_next : (height : ℕ) (es : List Epoch) (e : Epoch) → last_height height (es ++ e ∷ []) ≡ e.0
last_next height [] e = refl
last_next height (d ∷ es) e = last_next d.0 es e

-- one more epoch, which begins above the last
pub rise_next : (height : ℕ) (es : List Epoch) (e : Epoch) → RiseFrom (suc height) es → last_height height es < e.0 → RiseFrom (suc height) (es ++ e ∷ [])
rise_next height [] e before above = (omega (arith, above), tt)
rise_next height (d ∷ es) e before above = (before.0, rise_next d.0 es e before.1 above)
