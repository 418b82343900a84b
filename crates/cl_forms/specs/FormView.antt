-- What a contract sees of a form's kind.
use Rattle.cl_forms.specs.declared.form.FormKind.{FormKind as Kind}
use Rattle.cl_forms.specs.declared.form.FormKind.TheVariants.{Constant, Variable, MapOf, Fungible, NonFungible, Function, Expression}
use Rattle.cl_forms.specs.Forms.{FormKind, ConstantForm, VariableForm, MapForm, FungibleForm, NonFungibleForm, FunctionForm, ExpressionForm}

abbrev pub plain_kind : Kind → FormKind
plain_kind (Constant e) = ConstantForm e
plain_kind (Variable t e) = VariableForm t e
plain_kind (MapOf k v) = MapForm k v
plain_kind (Fungible supply) = FungibleForm supply
plain_kind (NonFungible t) = NonFungibleForm t
plain_kind (Function access params body) = FunctionForm access params.items body
plain_kind (Expression e) = ExpressionForm e
