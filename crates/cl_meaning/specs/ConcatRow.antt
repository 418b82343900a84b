-- A concatenation whose cost rises with the sizes of its arguments.
use Rattle.std.specs.Prelude.{ℕ, List, [], ◌∷◌, codes}
use Rattle.cl_types.specs.Types.{BuffType}
use Rattle.cl_types.specs.declared.sized.Access.TheVariants.{ReadOnly}
use Rattle.cl_shapes.specs.declared.function.Shape.TheVariants.{Constant, Linear}
use Rattle.cl_shapes.specs.declared.name.CostName.TheVariants.{Make}
use Rattle.cl_values.specs.Tree.{Tree as Val, BuffV}
use Rattle.cl_forms.specs.Forms.{Form}
use Rattle.cl_events.specs.State.{empty_state}
use Rattle.cl_meaning.specs.Answers.{Answer}
use Rattle.cl_meaning.specs.Limits.{Costs}
use Rattle.cl_meaning.specs.Samples.{name, form, function, P0, contract, call, unit}

-- (define-read-only (both (a (buff 4)) (b (buff 4))) (concat a b))
abbrev pub concat_forms : List Form
concat_forms = function ReadOnly (codes "both") ((codes "a", BuffType 4) ∷ (codes "b", BuffType 4) ∷ []) (form (codes "concat") (name (codes "a") ∷ name (codes "b") ∷ [])) ∷ []

-- the unit table, but for make
abbrev pub dear_make : Costs
dear_make Make = record { runtime = Linear 2 1; read_count = Constant 0; read_length = Constant 0; write_count = Constant 0; write_length = Constant 0 }
dear_make name = unit name

abbrev pub both_of : List ℕ → List ℕ → Answer Val
both_of a b = call (contract (codes "main") 64 concat_forms ∷ []) (codes "main") P0 (codes "both") (BuffV a ∷ BuffV b ∷ []) empty_state
