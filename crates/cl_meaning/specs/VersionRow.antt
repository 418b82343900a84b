-- Contracts of both versions that call each other: each goes by the natives of its own version.
use Rattle.std.specs.Prelude.{ℕ, pos, List, [], ◌∷◌, ◌++◌, codes}
use Rattle.cl_types.specs.Types.{IntType, UintType, BuffType}
use Rattle.cl_types.specs.declared.sized.Access.TheVariants.{ReadOnly}
use Rattle.cl_sexpr.specs.Tree.{Tree}
use Rattle.cl_values.specs.Tree.{Tree as Val, IntV, UintV, BuffV}
use Rattle.cl_forms.specs.declared.version.Version.TheVariants.{Two}
use Rattle.cl_forms.specs.Forms.{Form}
use Rattle.cl_events.specs.State.{empty_state}
use Rattle.cl_meaning.specs.Answers.{Answer}
use Rattle.cl_meaning.specs.Deployed.{Contract, Deployed}
use Rattle.cl_meaning.specs.Samples.{name, uint, beside_it, form, function, P0, contract, call}

-- a read-only function of the ints x and y
abbrev of_ints : List ℕ → Tree → Form
of_ints f body = function ReadOnly f ((codes "x", IntType) ∷ (codes "y", IntType) ∷ []) body

-- an operator, a function or a call on x and y
abbrev on_both : List ℕ → List Tree → Tree
on_both x front = form x (front ++ name (codes "x") ∷ name (codes "y") ∷ [])

-- of version 2: (define-read-only (both (x int) (y int)) (bit-and x y))(define-read-only (part (b (buff 4))) (slice? b u1 u3))(define-read-only (spelled (x uint)) (to-consensus-buff? x))
abbrev pub new : Contract
new = record (contract (codes "new") 170 (
    of_ints (codes "both") (on_both (codes "bit-and") [])
    ∷ function ReadOnly (codes "part") ((codes "b", BuffType 4) ∷ []) (form (codes "slice?") (name (codes "b") ∷ uint 1 ∷ uint 3 ∷ []))
    ∷ function ReadOnly (codes "spelled") ((codes "x", UintType) ∷ []) (form (codes "to-consensus-buff?") (name (codes "x") ∷ []))
    ∷ []
    )) { version = Two }

-- of version 1, where bit-and is an ordinary name: (define-read-only (bit-and (x int) (y int)) (+ x y))(define-read-only (both (x int) (y int)) (bit-and x y))(define-read-only (ask (x int) (y int)) (contract-call? .new both x y))
abbrev pub old : Contract
old = contract (codes "old") 178 (
    of_ints (codes "bit-and") (on_both (codes "+") [])
    ∷ of_ints (codes "both") (on_both (codes "bit-and") [])
    ∷ of_ints (codes "ask") (on_both (codes "contract-call?") (beside_it (codes "new") ∷ name (codes "both") ∷ []))
    ∷ []
    )

-- of version 2: (define-read-only (ask (x int) (y int)) (contract-call? .old both x y))
abbrev pub later : Contract
later = record (contract (codes "later") 71 (
    of_ints (codes "ask") (on_both (codes "contract-call?") (beside_it (codes "old") ∷ name (codes "both") ∷ []))
    ∷ []
    )) { version = Two }

abbrev pub all_three : Deployed
all_three = new ∷ old ∷ later ∷ []

-- a function of two ints, of a contract of the three
abbrev pub at_ints : List ℕ → List ℕ → ℕ → ℕ → Answer Val
at_ints x f m n = call all_three x P0 f (IntV (pos m) ∷ IntV (pos n) ∷ []) empty_state

abbrev pub part_of : List ℕ → Answer Val
part_of bytes = call all_three (codes "new") P0 (codes "part") (BuffV bytes ∷ []) empty_state

abbrev pub spelled : ℕ → Answer Val
spelled n = call all_three (codes "new") P0 (codes "spelled") (UintV n ∷ []) empty_state
