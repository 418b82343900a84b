-- Arrays with too few or too many parts for a shape.
use Rattle.std.proofs.Common.{◌≡◌, ℕ, ◌<◌, ◌≤◌, List, [], ◌∷◌, length, Option, Some, None, option_map, option_and_then, Result, Err, refl, arith}
use Rattle.std.specs.Option.{option_map_or}
use Rattle.serde_json.specs.View.{view, items_view}
use Rattle.serde_json.specs.Find.{as_str}
use Rattle.serde_json.specs.declared.value.Value.{Value}
use Rattle.cl_shapes.specs.declared.function.Shape.{Shape}
use Rattle.cl_costs.specs.Shapes.{whole, wholes, shape_with, shape_in}
use Rattle.cl_costs.specs.declared.shape.ShapeFault.{ShapeFault}
use Rattle.cl_costs.specs.declared.shape.ShapeFault.TheVariants.{NoShape}

never : {A : Type 0} (f : A → Result Shape ShapeFault) (o : Option A) → ((x : A) → Err NoShape ≡ f x) → Err NoShape ≡ option_map_or f o (Err NoShape)
never f None none = refl
never f (Some x) none = none x

-- one more number in front, if both are there
abbrev joined : Option ℕ → Option (List ℕ) → Option (List ℕ)
joined first rest = option_and_then (λ n. option_map (λ ns. n ∷ ns) rest) first

no_three : (name : List ℕ) (a b c : Option ℕ) (rest : Option (List ℕ)) → Err NoShape ≡ option_map_or (shape_with name) (joined a (joined b (joined c rest))) (Err NoShape)
no_three name None b c rest = refl
no_three name (Some a) None c rest = refl
no_three name (Some a) (Some b) None rest = refl
no_three name (Some a) (Some b) (Some c) None = refl
no_three name (Some a) (Some b) (Some c) (Some ns) = refl

pub few_parts : (xs : List Value) → length xs < 2 → Err NoShape ≡ shape_in (items_view xs)
few_parts [] few = refl
few_parts (x ∷ []) few = never _ (as_str (view x)) (λ name. refl)
few_parts (x ∷ y ∷ xs) few = absurd (omega arith)

pub many_parts : (xs : List Value) → 4 ≤ length xs → Err NoShape ≡ shape_in (items_view xs)
many_parts [] many = absurd (omega arith)
many_parts (x ∷ []) many = absurd (omega arith)
many_parts (x ∷ a ∷ []) many = absurd (omega arith)
many_parts (x ∷ a ∷ b ∷ []) many = absurd (omega arith)
many_parts (x ∷ a ∷ b ∷ c ∷ xs) many =
    never _ (as_str (view x)) (λ name. no_three name (whole (view a)) (whole (view b)) (whole (view c)) (wholes (items_view xs)))
