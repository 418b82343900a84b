-- Short words for sample contracts, their deployments and their calls.
use Rattle.std.specs.Prelude.{ℕ, List, [], ◌∷◌, replicate, Option, Some, None, ℤ}
use Rattle.cl_types.specs.Types.{PlainType}
use Rattle.cl_types.specs.declared.sized.Access.{Access}
use Rattle.cl_c32.specs.declared.principal.Principal.{Principal}
use Rattle.cl_shapes.specs.declared.cost.Cost5.{Cost5}
use Rattle.cl_shapes.specs.declared.function.CostFn.{CostFn}
use Rattle.cl_shapes.specs.declared.name.CostName.{CostName}
use Rattle.cl_shapes.specs.Costs.{zero_cost}
use Rattle.cl_shapes.specs.Limits.{Purse}
use Rattle.cl_shapes.specs.Names.{unit_function}
use Rattle.cl_sexpr.specs.declared.sexpr.Span.{Span}
use Rattle.cl_sexpr.specs.Tree.{Tree, LeafAt, ListAt, TupleAt, Named, Signed, Unsigned, Bytes, Ascii, Local, Then, forest, pairs}
use Rattle.cl_values.specs.Tree.{Tree as Val}
use Rattle.cl_forms.specs.declared.version.Version.TheVariants.{One}
use Rattle.cl_forms.specs.Forms.{Form, FormKind, ConstantForm, VariableForm, MapForm, FungibleForm, NonFungibleForm, FunctionForm, ExpressionForm}
use Rattle.cl_events.specs.State.{State}
use Rattle.cl_meaning.specs.Answers.{Answer, wrong}
use Rattle.cl_meaning.specs.Deployed.{Contract, Deployed, Function, function_of, contract_at}
use Rattle.cl_meaning.specs.Scope.{Frame}
use Rattle.cl_meaning.specs.Top.{call_from}
use Rattle.cl_meaning.specs.Deploying.{deployment}

-- ---- expressions, whose places don't matter

abbrev pub nowhere : Span
nowhere = record { start = 0; end = 0 }

abbrev pub name : List ℕ → Tree
name x = LeafAt (Named x) nowhere

abbrev pub int : ℤ → Tree
int z = LeafAt (Signed z) nowhere

abbrev pub uint : ℕ → Tree
uint n = LeafAt (Unsigned n) nowhere

abbrev pub buffer : List ℕ → Tree
buffer bytes = LeafAt (Bytes bytes) nowhere

abbrev pub ascii : List ℕ → Tree
ascii bytes = LeafAt (Ascii bytes) nowhere

abbrev pub beside_it : List ℕ → Tree
beside_it x = LeafAt (Local x) nowhere

-- a list that begins with a name, and any list
abbrev pub form : List ℕ → List Tree → Tree
form x es = ListAt (Then (name x) (forest es)) nowhere

abbrev pub group : List Tree → Tree
group es = ListAt (forest es) nowhere

abbrev pub braces : List (List ℕ × Tree) → Tree
braces ps = TupleAt (pairs ps) nowhere

-- ---- definitions

abbrev pub definition : List ℕ → FormKind → Form
definition x kind = record { name = Some x; kind = kind; span = nowhere }

abbrev pub constant : List ℕ → Tree → Form
constant x e = definition x (ConstantForm e)

abbrev pub variable : List ℕ → PlainType → Tree → Form
variable x type e = definition x (VariableForm type e)

abbrev pub map_form : List ℕ → PlainType → PlainType → Form
map_form x key value = definition x (MapForm key value)

abbrev pub fungible : List ℕ → Option Tree → Form
fungible x supply = definition x (FungibleForm supply)

abbrev pub nonfungible : List ℕ → PlainType → Form
nonfungible x type = definition x (NonFungibleForm type)

abbrev pub function : Access → List ℕ → List (List ℕ × PlainType) → Tree → Form
function access x params body = definition x (FunctionForm access params body)

abbrev pub expression : Tree → Form
expression e = record { name = None; kind = ExpressionForm e; span = nowhere }

-- ---- who deploys and calls

-- SP000000000000000000002Q6VF78
abbrev pub P0 : Principal
P0 = record { address = record { version = 22; hash = replicate 20 0 }; contract = None }

-- SP2J6ZY48GV1EZ5V2V5RB9MP66SW86PYKKNRV9EJ7
abbrev pub P1 : Principal
P1 = record {
  address = record { version = 22; hash = 164 ∷ 111 ∷ 248 ∷ 136 ∷ 134 ∷ 194 ∷ 239 ∷ 151 ∷ 98 ∷ 217 ∷ 112 ∷ 180 ∷ 210 ∷ 198 ∷ 54 ∷ 120 ∷ 131 ∷ 91 ∷ 211 ∷ 157 ∷ [] };
  contract = None;
}

-- a contract of P0
abbrev pub of_P0 : List ℕ → Principal
of_P0 x = record P0 { contract = Some x }

-- a contract of P0, with a text of so many bytes
abbrev pub contract : List ℕ → ℕ → List Form → Contract
contract x n forms = record { principal = of_P0 x; version = One; forms = forms; source_length = n; constants = [] }

-- at height 0
abbrev pub frame : List ℕ → Principal → Frame
frame x sender = record { contract = of_P0 x; sender = sender; caller = sender; height = 0 }

abbrev pub call_of : Deployed → Frame → Option Function → List Val → State → Answer Val
call_of W F None vs s = wrong s
call_of W F (Some f) vs s = call_from W F f vs s

-- a function of a contract of P0, called by a sender
abbrev pub call : Deployed → List ℕ → Principal → List ℕ → List Val → State → Answer Val
call W x sender f vs s = call_of W (frame x sender) (function_of f (contract_at (of_P0 x) W)) vs s

-- P0 deploys a contract
abbrev pub deploys : Deployed → List ℕ → Contract → State → Answer Contract
deploys W x c s = deployment W (frame x P0) c s

-- ---- costs

abbrev pub unit : CostName → CostFn
unit name = unit_function name

-- a limit of which nothing is spent
abbrev pub purse : Cost5 → Purse
purse limit = record { limit = limit; spent = zero_cost }
