-- A deployment: the forms in their order, each evaluated, charged, and put in the contract and the state.
use Rattle.std.specs.Prelude.{ℕ, List, [], ◌∷◌, ◌++◌, Option, Some, None, unwrap_or, Result, Ok, Err}
use Rattle.cl_shapes.specs.declared.name.CostName.TheVariants.{Deploy, Define}
use Rattle.cl_values.specs.Tree.{Tree as Val, UintV}
use Rattle.cl_values.specs.Wire.{size_of}
use Rattle.cl_maps.specs.Maps.{put, empty}
use Rattle.cl_tokens.specs.Ledger.{no_tokens}
use Rattle.cl_forms.specs.Forms.{Form, FormKind, ConstantForm, VariableForm, MapForm, FungibleForm, NonFungibleForm, FunctionForm, ExpressionForm}
pub use Rattle.cl_forms.specs.Order.{forms_at}
use Rattle.cl_forms.specs.Order.{ordered}
use Rattle.cl_events.specs.State.{State, place, with_variables, with_fungibles, with_nonfungibles}
use Rattle.cl_meaning.specs.Answers.{Answer, give, wrong, charged, and_then, with_known}
use Rattle.cl_meaning.specs.Deployed.{Contract, Deployed}
use Rattle.cl_meaning.specs.Scope.{Frame}
use Rattle.cl_meaning.specs.Top.{top}

-- the contract with one more constant
abbrev pub with_constant : List ℕ → Val → Contract → Contract
with_constant x v c = record c { constants = c.constants ++ (x, v) ∷ [] }

abbrev pub put_variable : Contract → List ℕ → Val → State → State
put_variable c x v s = with_variables (put (place c.principal x) v s.variables) s

-- a token that nobody holds, with the greatest supply that it may have
abbrev pub put_fungible : Contract → List ℕ → Option ℕ → State → State
put_fungible c x cap s = with_fungibles (put (place c.principal x) (no_tokens cap) s.fungibles) s

abbrev pub put_nonfungible : Contract → List ℕ → State → State
put_nonfungible c x s = with_nonfungibles (put (place c.principal x) empty s.nonfungibles) s

abbrev pub with_cap : Contract → List ℕ → Val → State → Answer Contract
with_cap c x (UintV n) s = charged Define (size_of (UintV n)) (give c (put_fungible c x (Some n) s))
with_cap c x v s = wrong s

-- a form of a name, evaluated and put there; its definition is charged by the size of its value or supply, or by 0
unfoldable pub defined : Deployed → Frame → List ℕ → FormKind → Contract → State → Answer Contract
defined W F x (ConstantForm e) c s = and_then (top W F c e s) (λ v t. charged Define (size_of v) (give (with_constant x v c) t))
defined W F x (VariableForm type e) c s = and_then (top W F c e s) (λ v t. charged Define (size_of v) (give c (put_variable c x v t)))
defined W F x (MapForm key value) c s = charged Define 0 (give c s)
defined W F x (FungibleForm None) c s = charged Define 0 (give c (put_fungible c x None s))
defined W F x (FungibleForm (Some e)) c s = and_then (top W F c e s) (with_cap c x)
defined W F x (NonFungibleForm type) c s = charged Define 0 (give c (put_nonfungible c x s))
defined W F x (FunctionForm access params body) c s = charged Define 0 (give c s)
defined W F x (ExpressionForm e) c s = and_then (top W F c e s) (λ v t. give c t)

unfoldable pub all_defined : Deployed → Frame → List Form → Contract → State → Answer Contract
all_defined W F [] c s = give c s
all_defined W F (f ∷ fs) c s = and_then (defined W F (unwrap_or f.name []) f.kind c s) (all_defined W F fs)

abbrev pub forms_by : List Form → Result (List ℕ) (List ℕ) → Option (List Form)
forms_by forms (Ok places) = Some (forms_at forms places)
forms_by forms (Err cycle) = None

-- the forms in the order of evaluation, where no forms name each other in a ring
abbrev pub in_order : List Form → Option (List Form)
in_order forms = forms_by forms (ordered forms)

-- the deployment of a contract whose constants have no values yet: the contract with them
unfoldable pub deployment : Deployed → Frame → Contract → State → Answer Contract
deployment W F c s = charged Deploy c.source_length (with_known (in_order c.forms) (λ fs. all_defined W F fs c) s)
