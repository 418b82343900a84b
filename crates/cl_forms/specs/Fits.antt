-- Forms whose names and literals are within the limits.
use Rattle.std.specs.Prelude.{List, [], ◌∷◌, Some}
use Rattle.cl_sexpr.specs.Fits.{Fits}
use Rattle.cl_forms.specs.Forms.{Form, FormKind, ConstantForm, VariableForm, FungibleForm, FunctionForm, ExpressionForm}

-- those of a form's expression fit
abbrev pub KindFits : FormKind → Type 0
KindFits (ConstantForm e) = Fits e
KindFits (VariableForm t e) = Fits e
KindFits (FungibleForm (Some e)) = Fits e
KindFits (FunctionForm access params body) = Fits body
KindFits (ExpressionForm e) = Fits e
KindFits kind = Unit {0}

abbrev pub FormsFit : List Form → Type 0
FormsFit [] = Unit {0}
FormsFit (form ∷ forms) = KindFits form.kind × FormsFit forms
