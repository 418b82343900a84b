-- A map over a public function, of which one application answers err and is undone.
use Rattle.std.specs.Prelude.{ℕ, List, [], ◌∷◌, codes}
use Rattle.cl_types.specs.Types.{UintType}
use Rattle.cl_types.specs.declared.sized.Access.TheVariants.{Public}
use Rattle.cl_values.specs.Tree.{Tree as Val, UintV}
use Rattle.cl_maps.specs.Maps.{put, empty}
use Rattle.cl_forms.specs.Forms.{Form}
use Rattle.cl_events.specs.State.{State, empty_state, place}
use Rattle.cl_meaning.specs.Answers.{Answer}
use Rattle.cl_meaning.specs.Samples.{name, uint, form, variable, function, P0, of_P0, contract, call}

-- (define-data-var v uint u0)(define-public (add (x uint)) (begin (var-set v (+ (var-get v) x)) (if (is-eq x u2) (err x) (ok x))))(define-public (all) (ok (map add (list u1 u2 u4))))
abbrev pub map_forms : List Form
map_forms =
    variable (codes "v") UintType (uint 0)
    ∷ function Public (codes "add") ((codes "x", UintType) ∷ []) (form (codes "begin") (form (codes "var-set") (name (codes "v") ∷ form (codes "+") (form (codes "var-get") (name (codes "v") ∷ []) ∷ name (codes "x") ∷ []) ∷ []) ∷ form (codes "if") (form (codes "is-eq") (name (codes "x") ∷ uint 2 ∷ []) ∷ form (codes "err") (name (codes "x") ∷ []) ∷ form (codes "ok") (name (codes "x") ∷ []) ∷ []) ∷ []))
    ∷ function Public (codes "all") [] (form (codes "ok") (form (codes "map") (name (codes "add") ∷ form (codes "list") (uint 1 ∷ uint 2 ∷ uint 4 ∷ []) ∷ []) ∷ []))
    ∷ []

abbrev pub v_is : ℕ → State
v_is n = record empty_state { variables = put (place (of_P0 (codes "main")) (codes "v")) (UintV n) empty }

abbrev pub all : Answer Val
all = call (contract (codes "main") 180 map_forms ∷ []) (codes "main") P0 (codes "all") [] (v_is 0)
