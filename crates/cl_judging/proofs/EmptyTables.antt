-- Look-ups in tables that are empty.
use Rattle.std.proofs.Common.{◌≡◌, ℕ, Bool, true, false, List, [], ◌∷◌, length, Option, None, refl, arith}
use Rattle.std.specs.Prelude.{◌↔◌, IsTrue}
use Rattle.std.specs.List.{list_any}
use Rattle.cl_rules.specs.Context.{named_in, same}

pub nothing_under : {A : Type 0} (x : List ℕ) (es : List (List ℕ × A)) → length es ≡ 0 → None ≡ named_in x es
nothing_under x [] h = refl
nothing_under x (e ∷ es) h = absurd (omega (arith, h))

pub nothing_among : (x : List ℕ) (names : List (List ℕ)) → length names ≡ 0 → false ≡ list_any (same x) names
nothing_among x [] h = refl
nothing_among x (y ∷ names) h = absurd (omega (arith, h))
