-- What a form breaks by itself, and what it adds to the forms before it.
use Rattle.std.specs.Prelude.{ℕ, suc, ◌&&◌, not, nat_lt, Bool, true, List, [], ◌∷◌, ◌++◌, map, length, unwrap_or, Option, Some, None}
use Rattle.cl_types.specs.Types.{PlainType, NoType, UintType, size_of, admits}
use Rattle.cl_types.specs.declared.sized.Access.{Access}
use Rattle.cl_types.specs.declared.sized.Access.TheVariants.{Public}
use Rattle.cl_c32.specs.declared.principal.Principal.{Principal}
use Rattle.cl_shapes.specs.declared.name.CostName.TheVariants.{Call, Define, Deploy}
use Rattle.cl_forms.specs.declared.version.Version.{Version}
use Rattle.cl_forms.specs.Forms.{Form, FormKind, ConstantForm, VariableForm, MapForm, FungibleForm, NonFungibleForm, FunctionForm, ExpressionForm}
use Rattle.cl_rules.specs.Faults.{FormFaults, sound_form}
use Rattle.cl_types.specs.TypeKinds.{is_response}
use Rattle.cl_rules.specs.Bills.{Bill, Free, Charge, Both}
use Rattle.cl_rules.specs.Context.{Signature, Known, Context}
use Rattle.cl_rules.specs.Verdicts.{Found, Thrown, thrown_after}
use Rattle.cl_rules.specs.Shapes.{Plan, Ends, Part}
use Rattle.cl_rules.specs.ControlShapes.{binds}

-- the greatest height of a function's application, and of the expression of another form
abbrev pub most_height : ℕ
most_height = 256

-- what the forms so far define, and the bound of their deployment
pub record Defined : Type 0 where
  pub context : Context
  pub deploy : Bill

-- before all forms of a text of this version and length: the charge of a deployment, with that length
abbrev pub nothing_defined : List Known → Principal → Version → ℕ → Defined
nothing_defined deployed principal version size = record {
  context = record { principal = principal; version = version; deployed = deployed; constants = []; variables = []; maps = []; fungibles = []; nonfungibles = []; functions = [] };
  deploy = Charge Deploy size;
}

-- the expression of a form, with its parameters bound
abbrev pub form_plan : FormKind → Plan
form_plan (ConstantForm e) = Part [] e Ends
form_plan (VariableForm t e) = Part [] e Ends
form_plan (MapForm k v) = Ends
form_plan (FungibleForm None) = Ends
form_plan (FungibleForm (Some e)) = Part [] e Ends
form_plan (NonFungibleForm t) = Ends
form_plan (FunctionForm access params body) = Part params body Ends
form_plan (ExpressionForm e) = Part [] e Ends

-- ---- what a form breaks

-- a function's return type: the least supertype of its body's type and thrown type
abbrev pub return_of : Found → Thrown
return_of f = thrown_after (Some f.type) (f.thrown ∷ [])

abbrev pub is_too_high : ℕ → Bool
is_too_high height = nat_lt most_height height

-- the declared type admits the expression's
abbrev pub declared_faults : PlainType → Found → FormFaults
declared_faults t f = record sound_form { argument_kind = not (admits t f.type); too_deep_calls = admits t f.type && is_too_high f.height }

-- whether a function of this access may have this type
abbrev pub may_answer : Access → PlainType → Bool
may_answer Public t = is_response t
may_answer access t = true

-- a return type that is refused breaks what refuses it alone
abbrev pub answer_faults : Access → ℕ → Thrown → Option PlainType → FormFaults
answer_faults access height returned None = record sound_form { too_large = returned.large; thrown_differ = returned.differ }
answer_faults access height returned (Some t) = record sound_form { not_response = not (may_answer access t); too_deep_calls = is_too_high height }

abbrev pub function_faults : Access → Found → FormFaults
function_faults access f = let returned = return_of f in answer_faults access (suc f.height) returned returned.type

-- what a form breaks where this is found of its expression
abbrev pub form_faults : FormKind → List Found → FormFaults
form_faults (ConstantForm e) (f ∷ fs) = record sound_form { too_deep_calls = is_too_high f.height }
form_faults (VariableForm t e) (f ∷ fs) = declared_faults t f
form_faults (FungibleForm supply) (f ∷ fs) = declared_faults UintType f
form_faults (FunctionForm access params body) (f ∷ fs) = function_faults access f
form_faults (ExpressionForm e) (f ∷ fs) = record sound_form { too_deep_calls = is_too_high f.height }
form_faults kind fs = sound_form

-- ---- what a form adds

-- the application of a function: its call, a bind for each parameter, and the body
abbrev pub application : List (List ℕ × PlainType) → Found → Bill
application params f = Both (Charge Call (length params)) (Both (binds (map (λ (p : List ℕ × PlainType). p.1) params)) f.bound)

abbrev pub signature_of : List ℕ → Access → List (List ℕ × PlainType) → Found → Signature
signature_of name access params f = record {
  name = name;
  access = access;
  params = params;
  returns = unwrap_or (return_of f).type NoType;
  height = suc f.height;
  bound = application params f;
}

-- the forms so far with one more, of this name, where this is found of its expression
abbrev pub context_after : Context → List ℕ → FormKind → List Found → Context
context_after G name (ConstantForm e) (f ∷ fs) = record G { constants = G.constants ++ (name, f.type) ∷ [] }
context_after G name (VariableForm t e) fs = record G { variables = G.variables ++ (name, t) ∷ [] }
context_after G name (MapForm k v) fs = record G { maps = G.maps ++ (name, (k, v)) ∷ [] }
context_after G name (FungibleForm supply) fs = record G { fungibles = G.fungibles ++ name ∷ [] }
context_after G name (NonFungibleForm t) fs = record G { nonfungibles = G.nonfungibles ++ (name, t) ∷ [] }
context_after G name (FunctionForm access params body) (f ∷ fs) = record G { functions = G.functions ++ signature_of name access params f ∷ [] }
context_after G name kind fs = G

-- what a form is charged when it is deployed: its expression, and its definition
abbrev pub form_charges : FormKind → List Found → Bill
form_charges (ConstantForm e) (f ∷ fs) = Both f.bound (Charge Define (size_of f.type))
form_charges (VariableForm t e) (f ∷ fs) = Both f.bound (Charge Define (size_of f.type))
form_charges (FungibleForm (Some e)) (f ∷ fs) = Both f.bound (Charge Define (size_of UintType))
form_charges (ExpressionForm e) (f ∷ fs) = f.bound
form_charges (ExpressionForm e) [] = Free
form_charges kind fs = Charge Define 0

abbrev pub defined_after : Defined → Form → List Found → Defined
defined_after D form fs = record {
  context = context_after D.context (unwrap_or form.name []) form.kind fs;
  deploy = Both D.deploy (form_charges form.kind fs);
}
