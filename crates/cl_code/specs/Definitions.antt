-- The form that a definition stands for.
use Rattle.std.specs.Prelude.{Some, None, Option}
use Rattle.cl_sexpr.specs.Tree.{Tree}
use Rattle.cl_forms.specs.Forms.{Form, ConstantForm, VariableForm, MapForm, FungibleForm, NonFungibleForm, FunctionForm, ExpressionForm}
use Rattle.cl_code.specs.declared.definition.Function.{Function as TypedFunction}
use Rattle.cl_code.specs.declared.definition.Definition.{Definition}
use Rattle.cl_code.specs.declared.definition.Definition.TheVariants.{Constant, Variable, MapOf, Fungible, NonFungible, Function, TopLevel}
use Rattle.cl_code.specs.Typed.{Typed, expression_of}

abbrev pub expression_if : Option Typed → Option Tree
expression_if None = None
expression_if (Some e) = Some (expression_of e)

-- a function with the expression of its body
abbrev pub function_form : TypedFunction → Form
function_form f = record { name = Some f.name; kind = FunctionForm f.access f.params.items (expression_of f.body); span = f.span }

-- a definition with the expressions that its trees stand for
abbrev pub form_defined : Definition → Form
form_defined (Constant c) = record { name = Some c.name; kind = ConstantForm (expression_of c.value); span = c.span }
form_defined (Variable v) = record { name = Some v.name; kind = VariableForm v.ty (expression_of v.value); span = v.span }
form_defined (MapOf m) = record { name = Some m.name; kind = MapForm m.key m.value; span = m.span }
form_defined (Fungible t) = record { name = Some t.name; kind = FungibleForm (expression_if t.supply); span = t.span }
form_defined (NonFungible t) = record { name = Some t.name; kind = NonFungibleForm t.id; span = t.span }
form_defined (Function f) = function_form f
form_defined (TopLevel e) = record { name = None; kind = ExpressionForm (expression_of e.value); span = e.span }
