-- A public function that answers err undoes its own changes, and those of the calls in it.
use Rattle.std.specs.Prelude.{ℕ, Bool, List, [], ◌∷◌, codes}
use Rattle.cl_types.specs.Types.{UintType, BoolType}
use Rattle.cl_types.specs.declared.sized.Access.TheVariants.{Public}
use Rattle.cl_values.specs.Tree.{Tree as Val, UintV, BoolV}
use Rattle.cl_maps.specs.Maps.{put, empty}
use Rattle.cl_forms.specs.Forms.{Form}
use Rattle.cl_events.specs.State.{State, empty_state, place}
use Rattle.cl_meaning.specs.Answers.{Answer}
use Rattle.cl_meaning.specs.Deployed.{Deployed}
use Rattle.cl_meaning.specs.Samples.{name, uint, beside_it, form, group, variable, function, P0, of_P0, contract, call}

-- (define-data-var v uint u0)(define-public (set-it (x uint) (good bool)) (begin (var-set v x) (if good (ok x) (err x))))
abbrev pub b_forms : List Form
b_forms =
    variable (codes "v") UintType (uint 0)
    ∷ function Public (codes "set-it") ((codes "x", UintType) ∷ (codes "good", BoolType) ∷ []) (form (codes "begin") (form (codes "var-set") (name (codes "v") ∷ name (codes "x") ∷ []) ∷ form (codes "if") (name (codes "good") ∷ form (codes "ok") (name (codes "x") ∷ []) ∷ form (codes "err") (name (codes "x") ∷ []) ∷ []) ∷ []))
    ∷ []

-- (define-data-var w uint u0)(define-public (go (good bool) (mine bool)) (let ((r (contract-call? .b set-it u7 good))) (begin (var-set w u9) (if mine (ok true) (err false)))))
abbrev pub a_forms : List Form
a_forms =
    variable (codes "w") UintType (uint 0)
    ∷ function Public (codes "go") ((codes "good", BoolType) ∷ (codes "mine", BoolType) ∷ []) (form (codes "let") (group (form (codes "r") (form (codes "contract-call?") (beside_it (codes "b") ∷ name (codes "set-it") ∷ uint 7 ∷ name (codes "good") ∷ []) ∷ []) ∷ []) ∷ form (codes "begin") (form (codes "var-set") (name (codes "w") ∷ uint 9 ∷ []) ∷ form (codes "if") (name (codes "mine") ∷ form (codes "ok") (name (codes "true") ∷ []) ∷ form (codes "err") (name (codes "false") ∷ []) ∷ []) ∷ []) ∷ []))
    ∷ []

abbrev pub both : Deployed
both = contract (codes "a") 173 a_forms ∷ contract (codes "b") 119 b_forms ∷ []

-- the state in which b's v and a's w are these
abbrev pub v_and_w : ℕ → ℕ → State
v_and_w v w = record empty_state { variables = put (place (of_P0 (codes "a")) (codes "w")) (UintV w) (put (place (of_P0 (codes "b")) (codes "v")) (UintV v) empty) }

abbrev pub go : Bool → Bool → Answer Val
go good mine = call both (codes "a") P0 (codes "go") (BoolV good ∷ BoolV mine ∷ []) (v_and_w 0 0)
