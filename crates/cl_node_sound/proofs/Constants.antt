-- Values of constants are of the types under their names.
use Rattle.std.proofs.Common.{◌≡◌, ℕ, Bool, true, false, List, [], ◌∷◌, Some, refl, ap, subst, ◌∙◌}
use Rattle.std.specs.Prelude.{if◌then◌else◌}
use Rattle.std.specs.Str.{bytes_eq}
use Rattle.cl_values.specs.Tree.{Tree}
use Rattle.cl_values.specs.Typed.{IsOf}
use Rattle.cl_meaning.specs.Deployed.{value_of}
use Rattle.cl_meaning.specs.Scope.{BoundValues}
use Rattle.cl_rules.specs.Context.{Names, named_in, same}
use Rattle.cl_expression_sound.specs.Sound.{AreBound}
use Rattle.cl_node_sound.specs.Sound.{IsTypedUnder}

some_value : (v w : Tree) → Some v ≡ Some w → v ≡ w
some_value v w e = cc

pub typed_under : (B : Names) (E : BoundValues) (x : List ℕ) (v : Tree) → AreBound B E → value_of x E ≡ Some v → IsTypedUnder B x v
typed_under [] [] x v are h = absurd cc
typed_under [] (e ∷ E) x v are h = absurd are
typed_under (b ∷ B) [] x v are h = absurd are
typed_under (b ∷ B) (e ∷ E) x v are h =
    by (same b.0 x) refl (subst (λ k. (if bytes_eq k x then Some e.1 else value_of x E) ≡ Some v) are.0 h) (typed_under B E x v are.2)
  where
    by : (s : Bool) → same b.0 x ≡ s → (if s then Some e.1 else value_of x E) ≡ Some v → (value_of x E ≡ Some v → IsTypedUnder B x v) → IsTypedUnder (b ∷ B) x v
    by true is found more = record { type = b.1; there = ap (λ s. if s then Some b.1 else named_in x B) is; typed = subst (λ w. IsOf w b.1) (some_value e.1 v found) are.1 }
    by false is found more =
        let rest = more found in
        record { type = rest.type; there = ap (λ s. if s then Some b.1 else named_in x B) is ∙ rest.there; typed = rest.typed }
