-- How many parts forms have, beside the items that they are made of.
use Rattle.std.specs.Prelude.{ℕ, ◌+◌, List, [], ◌∷◌, length, Option, Some, None}
use Rattle.cl_sexpr.specs.Tree.{Tree, tree_size}
use Rattle.cl_forms.specs.Forms.{Form, FormKind, ConstantForm, VariableForm, MapForm, FungibleForm, NonFungibleForm, FunctionForm, ExpressionForm}

abbrev pub weight_if : Option Tree → ℕ
weight_if None = 0
weight_if (Some e) = tree_size e

-- the items in a form's expression, and its parameters
abbrev pub weight_of_kind : FormKind → ℕ
weight_of_kind (ConstantForm e) = tree_size e
weight_of_kind (VariableForm t e) = tree_size e
weight_of_kind (MapForm k v) = 0
weight_of_kind (FungibleForm supply) = weight_if supply
weight_of_kind (NonFungibleForm t) = 0
weight_of_kind (FunctionForm access params body) = length params + tree_size body
weight_of_kind (ExpressionForm e) = tree_size e

-- the same of all forms, each of which counts for itself
abbrev pub weight_of_forms : List Form → ℕ
weight_of_forms [] = 0
weight_of_forms (form ∷ forms) = weight_of_kind form.kind + 1 + weight_of_forms forms
