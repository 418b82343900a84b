-- Items of which neither the number nor what stands for a name is at fault are the parts of match.
use Rattle.std.proofs.Common.{◌≡◌, ℕ, ◌<◌, true, false, List, [], ◌∷◌, length, ◌⊎◌, inl, inr, arith}
use Rattle.std.specs.Prelude.{not, ◌||◌, nat_eq}
use Rattle.std.proofs.lemmas.Bool.{not-false, or_cases, eqb-true}
use Rattle.std.specs.List.{list_all}
use Rattle.cl_sexpr.specs.declared.sexpr.Span.{Span}
use Rattle.cl_sexpr.specs.Tree.{Tree, LeafAt, Named}
use Rattle.cl_forms.specs.declared.head.Head.TheVariants.{Match}
use Rattle.cl_forms.specs.Heads.{row_of}
use Rattle.cl_forms.specs.Shapes.{name_places}
use Rattle.cl_rules.specs.Shapes.{is_miscounted}
use Rattle.cl_rules.specs.ControlShapes.{is_atom}

-- more than five items are too many
too_many : (n : ℕ) → 5 < n → not (nat_eq n 4 || nat_eq n 5) ≡ false → ⊥
too_many n more count = by (or_cases (nat_eq n 4) (nat_eq n 5) (not-false (nat_eq n 4 || nat_eq n 5) count))
  where
    by : (nat_eq n 4 ≡ true) ⊎ (nat_eq n 5 ≡ true) → ⊥
    by (inl e) = omega (arith, more, eqb-true n 4 e)
    by (inr e) = omega (arith, more, eqb-true n 5 e)

-- what holds of a match of an optional and of one of a response holds of these items
pub match_is_read : (P : List Tree → Type 0)
    → ((i : Tree) (x : List ℕ) (at : Span) (a b : Tree) → P (i ∷ LeafAt (Named x) at ∷ a ∷ b ∷ []))
    → ((i : Tree) (x : List ℕ) (at : Span) (a : Tree) (y : List ℕ) (at' : Span) (b : Tree) → P (i ∷ LeafAt (Named x) at ∷ a ∷ LeafAt (Named y) at' ∷ b ∷ []))
    → (es : List Tree) → is_miscounted (row_of Match) es ≡ false → not (list_all is_atom (name_places es)) ≡ false → P es
match_is_read P optional response (i ∷ LeafAt (Named x) at ∷ a ∷ b ∷ []) count names = optional i x at a b
match_is_read P optional response (i ∷ LeafAt (Named x) at ∷ a ∷ LeafAt (Named y) at' ∷ b ∷ []) count names = response i x at a y at' b
match_is_read P optional response (i ∷ x ∷ a ∷ y ∷ b ∷ e ∷ es) count names = absurd (too_many (length (i ∷ x ∷ a ∷ y ∷ b ∷ e ∷ es)) (omega arith) count)
match_is_read P optional response es count names = absurd cc
