-- One answer after another, along a list.
use Rattle.std.specs.Prelude.{ℕ, List, [], ◌∷◌}
use Rattle.cl_sexpr.specs.Tree.{Tree}
use Rattle.cl_values.specs.Tree.{Tree as Val}
use Rattle.cl_events.specs.State.{State}
use Rattle.cl_meaning.specs.Answers.{Answer, give, and_then, with_known}
use Rattle.cl_meaning.specs.Scope.{Scope, Callee, Take, Enter}
use Rattle.cl_meaning.specs.Sequences.{all_entries, each, rows_of}

-- the values at all of a list, each on the state that the one before left
unfoldable pub in_turn : {A B : Type 0} → (A → State → Answer B) → List A → State → Answer (List B)
in_turn step [] s = give [] s
in_turn step (x ∷ xs) s = and_then (step x s) (λ v t. and_then (in_turn step xs t) (λ vs u. give (v ∷ vs) u))

-- a part of a tuple, with its key
abbrev pub field_taken : Take → Scope → List ℕ × Tree → State → Answer (List ℕ × Val)
field_taken take S p s = and_then (take S p.1 s) (λ v t. give (p.0, v) t)

-- the results at the entries of sequences side by side
abbrev pub results_of : Enter → Scope → Callee → List Val → State → Answer (List Val)
results_of enter S f vs s = with_known (rows_of (all_entries vs)) (each enter S f) s
