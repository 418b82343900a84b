-- One read-only function: its charges, its cost, an overflow, its trace, and the depth that it needs.
use Rattle.std.specs.Prelude.{ℕ, List, [], ◌∷◌, codes, pos}
use Rattle.cl_types.specs.Types.{IntType}
use Rattle.cl_types.specs.declared.sized.Access.TheVariants.{ReadOnly}
use Rattle.cl_shapes.specs.declared.name.CostName.TheVariants.{Call, Bind, Lookup, Literal, Arith}
use Rattle.cl_sexpr.specs.declared.sexpr.Span.{Span}
use Rattle.cl_sexpr.specs.Tree.{Tree, LeafAt, ListAt, Named, Signed, forest}
use Rattle.cl_values.specs.Tree.{Tree as Val, IntV}
use Rattle.cl_forms.specs.Forms.{Form}
use Rattle.cl_events.specs.State.{empty_state}
use Rattle.cl_meaning.specs.Answers.{Answer}
use Rattle.cl_meaning.specs.Deployed.{Contract}
use Rattle.cl_meaning.specs.Limits.{Charge}
use Rattle.cl_meaning.specs.Trace.{Claim}
use Rattle.cl_meaning.specs.Samples.{name, int, form, function, P0, contract, call, deploys}

-- (define-read-only (add1 (x int)) (+ x 1))
abbrev pub add1_forms : List Form
add1_forms = function ReadOnly (codes "add1") ((codes "x", IntType) ∷ []) (form (codes "+") (name (codes "x") ∷ int (pos 1) ∷ [])) ∷ []

abbrev pub add1_contract : Contract
add1_contract = contract (codes "main") 41 add1_forms

abbrev pub add1_deployed : Answer Contract
add1_deployed = deploys [] (codes "main") add1_contract empty_state

abbrev pub add1_of : ℕ → Answer Val
add1_of n = call (add1_contract ∷ []) (codes "main") P0 (codes "add1") (IntV (pos n) ∷ []) empty_state

abbrev pub add1_charges : List Charge
add1_charges = (Call, 1) ∷ (Bind, 17) ∷ (Lookup, 17) ∷ (Literal, 17) ∷ (Arith, 2) ∷ []

-- ---- the same with the places of its text

abbrev pub span : ℕ → ℕ → Span
span start end = record { start = start; end = end }

-- (+ x 1), which stands from byte 33 to byte 40
abbrev pub placed_sum : Tree
placed_sum = ListAt (forest (LeafAt (Named (codes "+")) (span 34 35) ∷ LeafAt (Named (codes "x")) (span 36 37) ∷ LeafAt (Signed (pos 1)) (span 38 39) ∷ [])) (span 33 40)

abbrev pub placed_contract : Contract
placed_contract = contract (codes "main") 41 (function ReadOnly (codes "add1") ((codes "x", IntType) ∷ []) placed_sum ∷ [])

abbrev pub placed_of : ℕ → Answer Val
placed_of n = call (placed_contract ∷ []) (codes "main") P0 (codes "add1") (IntV (pos n) ∷ []) empty_state

abbrev pub claim : ℕ → ℕ → ℕ → Claim
claim start end n = record { span = span start end; value = IntV (pos n) }

-- the name, the literal, and then their sum
abbrev pub add1_trace : List Claim
add1_trace = claim 36 37 41 ∷ claim 38 39 1 ∷ claim 33 40 42 ∷ []
