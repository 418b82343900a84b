-- The expressions of forms, placed as the items of a text are.
use Rattle.std.specs.Prelude.{List, [], ◌∷◌, Option, Some, None}
use Rattle.cl_sexpr.specs.Tree.{Tree}
use Rattle.cl_sexpr.specs.Placed.{IsPlaced}
use Rattle.cl_forms.specs.Forms.{Form, expression_of}

abbrev pub IsPlacedIf : Option Tree → Type 0
IsPlacedIf None = Unit {0}
IsPlacedIf (Some e) = IsPlaced e

-- each of these items is placed
abbrev pub AllPlaced : List Tree → Type 0
AllPlaced [] = Unit {0}
AllPlaced (e ∷ es) = IsPlaced e × AllPlaced es

-- the expression of each form is placed
abbrev pub AreFormsPlaced : List Form → Type 0
AreFormsPlaced [] = Unit {0}
AreFormsPlaced (form ∷ forms) = IsPlacedIf (expression_of form.kind) × AreFormsPlaced forms
