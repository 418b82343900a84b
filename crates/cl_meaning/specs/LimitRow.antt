-- A counter under two limits, of which the second is one byte too small.
use Rattle.std.specs.Prelude.{ℕ, true, List, [], ◌∷◌, codes}
use Rattle.cl_types.specs.Types.{UintType}
use Rattle.cl_types.specs.declared.sized.Access.TheVariants.{Public}
use Rattle.cl_shapes.specs.declared.cost.Cost5.{Cost5}
use Rattle.cl_shapes.specs.declared.cost.Dimension.TheVariants.{WriteLength}
use Rattle.cl_shapes.specs.Costs.{cost5}
use Rattle.cl_values.specs.Tree.{Tree as Val, UintV, ResponseV}
use Rattle.cl_maps.specs.Maps.{put, empty}
use Rattle.cl_forms.specs.Forms.{Form}
use Rattle.cl_events.specs.State.{State, empty_state, place}
use Rattle.cl_meaning.specs.Answers.{Answer}
use Rattle.cl_meaning.specs.Deployed.{Contract}
use Rattle.cl_meaning.specs.Limits.{Limited, Gave, Passed}
use Rattle.cl_meaning.specs.Samples.{name, uint, form, variable, function, P0, of_P0, contract, call, deploys}

-- (define-data-var n uint u0)(define-public (inc) (begin (var-set n (+ (var-get n) u1)) (ok (var-get n))))
abbrev pub n_forms : List Form
n_forms =
    variable (codes "n") UintType (uint 0)
    ∷ function Public (codes "inc") [] (form (codes "begin") (form (codes "var-set") (name (codes "n") ∷ form (codes "+") (form (codes "var-get") (name (codes "n") ∷ []) ∷ uint 1 ∷ []) ∷ []) ∷ form (codes "ok") (form (codes "var-get") (name (codes "n") ∷ []) ∷ []) ∷ []))
    ∷ []

abbrev pub n_contract : Contract
n_contract = contract (codes "n") 104 n_forms

abbrev pub n_deployed : Answer Contract
n_deployed = deploys [] (codes "n") n_contract empty_state

abbrev pub n_is : ℕ → State
n_is n = record empty_state { variables = put (place (of_P0 (codes "n")) (codes "n")) (UintV n) empty }

abbrev pub inc : Answer Val
inc = call (n_contract ∷ []) (codes "n") P0 (codes "inc") [] (n_is 0)

abbrev pub enough : Cost5
enough = cost5 8 2 34 1 17

abbrev pub too_little : Cost5
too_little = cost5 8 2 34 1 16

-- nothing is left of the limit
abbrev pub inc_within : Limited Val
inc_within = Gave (ResponseV true (UintV 1)) (n_is 1) (record { limit = enough; spent = enough })

-- the charge of the write is the first that passes: 17 bytes, where 16 may be written
abbrev pub inc_over : Limited Val
inc_over = Passed (record { dimension = WriteLength; attempted = cost5 6 1 17 1 17; limit = 16 }) (record { limit = too_little; spent = cost5 5 1 17 0 0 })
