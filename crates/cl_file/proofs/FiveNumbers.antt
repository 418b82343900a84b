-- Lists that aren't five numbers.
use Rattle.std.proofs.Common.{◌≡◌, ◌<◌, ◌≤◌, List, [], ◌∷◌, length, None, refl, arith}
use Rattle.serde_json.specs.View.{items_view}
use Rattle.serde_json.specs.declared.value.Value.{Value}
use Rattle.cl_file.specs.Kinds.{five_in}

pub few_parts : (xs : List Value) → length xs < 5 → None ≡ five_in (items_view xs)
few_parts [] h = refl
few_parts (a ∷ []) h = refl
few_parts (a ∷ b ∷ []) h = refl
few_parts (a ∷ b ∷ c ∷ []) h = refl
few_parts (a ∷ b ∷ c ∷ d ∷ []) h = refl
few_parts (a ∷ b ∷ c ∷ d ∷ e ∷ xs) h = absurd (omega arith)

pub many_parts : (xs : List Value) → 6 ≤ length xs → None ≡ five_in (items_view xs)
many_parts [] h = absurd (omega arith)
many_parts (a ∷ []) h = absurd (omega arith)
many_parts (a ∷ b ∷ []) h = absurd (omega arith)
many_parts (a ∷ b ∷ c ∷ []) h = absurd (omega arith)
many_parts (a ∷ b ∷ c ∷ d ∷ []) h = absurd (omega arith)
many_parts (a ∷ b ∷ c ∷ d ∷ e ∷ []) h = absurd (omega arith)
many_parts (a ∷ b ∷ c ∷ d ∷ e ∷ f ∷ xs) h = refl
