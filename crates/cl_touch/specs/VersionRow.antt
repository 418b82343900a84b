-- Contracts of both versions, of which one calls the other: each one's natives are those of its own version.
use Rattle.std.specs.Prelude.{[], ◌∷◌, codes}
use Rattle.cl_types.specs.Types.{UintType}
use Rattle.cl_types.specs.declared.sized.Access.TheVariants.{Public, ReadOnly}
use Rattle.cl_forms.specs.declared.version.Version.TheVariants.{Two}
use Rattle.cl_meaning.specs.Deployed.{Contract, Deployed}
use Rattle.cl_meaning.specs.Samples.{name, uint, beside_it, form, variable, function, contract}

-- of version 1, where bit-and is an ordinary name: (define-data-var n uint u0)
-- (define-public (bit-and (x uint)) (begin (var-set n x) (ok x)))(define-public (go) (bit-and u1))
abbrev pub old : Contract
old = contract (codes "old") 123 (
    variable (codes "n") UintType (uint 0)
    ∷ function Public (codes "bit-and") ((codes "x", UintType) ∷ []) (form (codes "begin") (form (codes "var-set") (name (codes "n") ∷ name (codes "x") ∷ []) ∷ form (codes "ok") (name (codes "x") ∷ []) ∷ []))
    ∷ function Public (codes "go") [] (form (codes "bit-and") (uint 1 ∷ []))
    ∷ []
    )

-- of version 2: (define-read-only (low (x uint)) (bit-and x u1))(define-public (ask) (contract-call? .old go))
abbrev pub new : Contract
new = record (contract (codes "new") 94 (
    function ReadOnly (codes "low") ((codes "x", UintType) ∷ []) (form (codes "bit-and") (name (codes "x") ∷ uint 1 ∷ []))
    ∷ function Public (codes "ask") [] (form (codes "contract-call?") (beside_it (codes "old") ∷ name (codes "go") ∷ []))
    ∷ []
    )) { version = Two }

abbrev pub old_and_new : Deployed
old_and_new = old ∷ new ∷ []
