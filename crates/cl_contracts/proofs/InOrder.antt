-- The definitions of a contract, one after another in the order of evaluation.
use Rattle.std.proofs.Common.{◌≡◌, ℕ, zero, suc, ◌+◌, ◌<◌, List, [], ◌∷◌, length, drop, get_or, filter_map, slice_get, Option, refl, ap, ◌∙◌, arith}
use Rattle.std.specs.List.{cons_option}
use Rattle.cl_values.proofs.Lists.{rest_of}
use Rattle.cl_sexpr.specs.Tree.{Tree}
use Rattle.cl_code.specs.Typed.{Typed, typeds}
use Rattle.cl_code.specs.declared.definition.Definition.{Definition}
use Rattle.cl_rules.specs.Context.{Context, Names}
use Rattle.cl_rules.specs.Verdicts.{Found}
use Rattle.cl_rules.specs.Shapes.{Ends, Part}
use Rattle.cl_contracts.specs.declared.parts.Parts.{Parts as Checked}
use Rattle.cl_contracts.specs.Standing.{Stands, StandAll}

-- the tree of a plan with one part
pub one_part : (G : Context) (B : Names) (e : Tree) (q : Typed) (fs : List Found) → StandAll G (Part B e Ends) (typeds (q ∷ [])) fs → (f : Found) × (fs ≡ f ∷ []) × Stands G B q f
one_part G B e q [] stand = absurd stand
one_part G B e q (f ∷ []) stand = (f, refl, stand.1)
one_part G B e q (f ∷ g ∷ fs) stand = absurd stand.2

-- the definitions at these places
abbrev pub at_places : Checked → List ℕ → List Definition
at_places checked places = filter_map (slice_get checked.definitions.items) places

-- the next place
pub next_place : (checked : Checked) (i place : ℕ) (o : Option Definition) → i < length checked.order.items → get_or checked.order.items i place ≡ place → slice_get checked.definitions.items place ≡ o → at_places checked (drop i checked.order.items) ≡ cons_option o (at_places checked (drop (i + 1) checked.order.items))
next_place checked i place o lt at is =
    ap (at_places checked) (rest_of checked.order.items i place lt at) ∙ ap (λ (p : Option Definition). cons_option p (at_places checked (drop (i + 1) checked.order.items))) is

-- what stands at a place is there, whatever stands for a place past the end
pub again : {A : Type 0} (xs : List A) (i : ℕ) (d : A) → i < length xs → get_or xs i (get_or xs i d) ≡ get_or xs i d
again [] i d lt = absurd (omega (arith, lt))
again (x ∷ xs) zero d lt = refl
again (x ∷ xs) (suc i) d lt = again xs i d (omega (arith, lt))
