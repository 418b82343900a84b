-- A fold over a function that forgets the result so far.
use Rattle.std.specs.Prelude.{List, [], ◌∷◌, codes}
use Rattle.cl_types.specs.Types.{BuffType, ListType}
use Rattle.cl_types.specs.declared.sized.Access.TheVariants.{ReadOnly, Private}
use Rattle.cl_values.specs.Tree.{Tree as Val, ListV, items_of}
use Rattle.cl_forms.specs.Forms.{Form}
use Rattle.cl_events.specs.State.{empty_state}
use Rattle.cl_meaning.specs.Answers.{Answer}
use Rattle.cl_meaning.specs.Samples.{name, buffer, form, function, P0, contract, call}

-- (define-private (h (x (buff 1)) (acc (buff 2))) x)(define-read-only (g (xs (list 3 (buff 1)))) (fold h xs 0x0102))
abbrev pub fold_forms : List Form
fold_forms =
    function Private (codes "h") ((codes "x", BuffType 1) ∷ (codes "acc", BuffType 2) ∷ []) (name (codes "x"))
    ∷ function ReadOnly (codes "g") ((codes "xs", ListType 3 (BuffType 1)) ∷ []) (form (codes "fold") (name (codes "h") ∷ name (codes "xs") ∷ buffer (1 ∷ 2 ∷ []) ∷ []))
    ∷ []

abbrev pub fold_of : List Val → Answer Val
fold_of vs = call (contract (codes "f") 114 fold_forms ∷ []) (codes "f") P0 (codes "g") (ListV (items_of vs) ∷ []) empty_state
