-- The lines of functions end where there is no type more.
use Rattle.std.proofs.Common.{◌≡◌, ℕ, ◌≤◌, List, [], ◌∷◌, ◌++◌, drop, length, refl, sym, ap, ◌∙◌}
use Rattle.std.proofs.lemmas.List.{drop_all, append-nil}
use Rattle.cl_types.specs.Types.{PlainType}
use Rattle.cl_shapes.specs.declared.cost.Cost5.{Cost5}
use Rattle.cl_lines.specs.Costs.{bound_lines}

without_types : (fs : List (List ℕ × Cost5)) → bound_lines fs [] ≡ []
without_types [] = refl
without_types (f ∷ fs) = refl

-- what was written so far is all
pub all_written : (fs : List (List ℕ × Cost5)) (ts : List PlainType) (i : ℕ) (out whole : List ℕ) → length ts ≤ i → out ++ bound_lines (drop i fs) (drop i ts) ≡ whole → out ≡ whole
all_written fs ts i out whole h e =
    sym (append-nil out) ∙ ap (λ rest. out ++ rest) (sym (ap (bound_lines (drop i fs)) (drop_all i ts h) ∙ without_types (drop i fs))) ∙ e
