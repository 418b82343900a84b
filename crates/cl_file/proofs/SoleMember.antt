-- The one member of an object.
use Rattle.std.proofs.Common.{◌≡◌, List, [], ◌∷◌, length, Some, None, option_map, String, Global, string_bytes, slice_get, sym, ap, refl, arith}
use Rattle.serde_json.specs.View.{view, members_view}
use Rattle.serde_json.specs.declared.value.Value.{Value}
use Rattle.cl_file.specs.Objects.{sole_in}

pub not_sole : (es : List (String Global × Value)) → (length es ≡ 1 → ⊥) → None ≡ sole_in (members_view es)
not_sole [] h = refl
not_sole (e ∷ []) h = absurd (h (omega arith))
not_sole (e ∷ f ∷ es) h = refl

pub is_sole : (es : List (String Global × Value)) (name : String Global) (v : Value) → length es ≡ 1 → slice_get es 0 ≡ Some (name, v)
    → Some (string_bytes name, view v) ≡ sole_in (members_view es)
is_sole [] name v n h = absurd (omega (arith, n))
is_sole (e ∷ []) name v n h = ap (option_map (λ p. (string_bytes p.0, view p.1))) (sym h)
is_sole (e ∷ f ∷ es) name v n h = absurd (omega (arith, n))
