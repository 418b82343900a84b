-- How evaluations see the contracts of the code, and that they find what is defined.
use Rattle.std.specs.Prelude.{◌≡◌, ℕ, Bool, true, List, [], ◌∷◌, map, slice_get, if◌then◌else◌, Option, Some, None, option_and_then}
use Rattle.cl_types.specs.Types.{PlainType}
use Rattle.cl_c32.specs.declared.principal.Principal.{Principal}
use Rattle.cl_values.specs.Tree.{Tree as Val}
use Rattle.cl_values.specs.Valid.{IsPrincipal}
use Rattle.cl_values.specs.Inhabits.{inhabits}
use Rattle.std.specs.List.{list_all}
use Rattle.cl_forms.specs.declared.version.Version.{Version}
use Rattle.cl_forms.specs.Forms.{Form, FormKind}
use Rattle.cl_forms.specs.Names.{name_at}
use Rattle.cl_forms.specs.Order.{IsGoodOrder}
use Rattle.cl_code.specs.declared.definition.Function.{Function as TypedFunction}
use Rattle.cl_code.specs.declared.definition.Constant.{Constant as TypedConstant}
use Rattle.cl_code.specs.declared.definition.Definition.{Definition}
use Rattle.cl_code.specs.declared.definition.Definition.TheVariants.{Constant, Variable, MapOf, Fungible, NonFungible, Function, TopLevel}
use Rattle.cl_code.specs.Typed.{Typed, expression_of, type_of, typeds, all_go_by}
use Rattle.cl_code.specs.Definitions.{form_defined}
use Rattle.cl_meaning.specs.Deployed.{Contract as ContractSeen, Deployed as DeployedSeen, Function as FunctionSeen, value_of}
use Rattle.cl_rules.specs.Context.{named_in, same_principal}
use Rattle.cl_contracts.specs.declared.parts.Parts.{Parts as Checked}
use Rattle.cl_contracts.specs.Contents.{ContractParts as Contract, DeployedParts as Deployed}

-- the forms of a contract, in the order of its text
abbrev pub forms_of : Checked → List Form
forms_of c = map form_defined c.definitions.items

-- a deployed contract
abbrev pub contract_seen : Principal × Contract → ContractSeen
contract_seen e = record { principal = e.0; version = e.1.checked.version; forms = forms_of e.1.checked; source_length = e.1.checked.source_length; constants = e.1.constants }

-- the deployed contracts, the oldest first
abbrev pub deployed_seen : Deployed → DeployedSeen
deployed_seen d = map contract_seen d.contracts

-- ---- what is defined under a name

abbrev pub kind_at : Definition → FormKind
kind_at d = (form_defined d).kind

-- the definition at the place of a name
abbrev pub definition_under : List ℕ → Checked → Option Definition
definition_under x c = option_and_then (slice_get c.definitions.items) (named_in x c.places.entries)

abbrev pub as_function : Definition → Option TypedFunction
as_function (Function f) = Some f
as_function d = None

-- the function of a name
abbrev pub function_under : List ℕ → Checked → Option TypedFunction
function_under x c = option_and_then as_function (definition_under x c)

-- a function with the expression of its body
abbrev pub function_seen : TypedFunction → FunctionSeen
function_seen f = record { name = f.name; access = f.access; params = f.params.items; body = expression_of f.body }

abbrev pub as_constant : Definition → Option TypedConstant
as_constant (Constant c) = Some c
as_constant d = None

-- the constant of a name
abbrev pub constant_under : List ℕ → Checked → Option TypedConstant
constant_under x c = option_and_then as_constant (definition_under x c)

abbrev pub type_given : TypedConstant → PlainType
type_given c = type_of c.value

abbrev pub tree_if : Option Typed → List Typed
tree_if None = []
tree_if (Some e) = e ∷ []

-- the tree of a definition, if it has an expression
abbrev pub trees_of : Definition → List Typed
trees_of (Constant c) = c.value ∷ []
trees_of (Variable v) = v.value ∷ []
trees_of (MapOf m) = []
trees_of (Fungible t) = tree_if t.supply
trees_of (NonFungible t) = []
trees_of (Function f) = f.body ∷ []
trees_of (TopLevel e) = e.value ∷ []

-- whether a definition can stand in a text of a version
abbrev pub goes : Version → Definition → Bool
goes version d = all_go_by version (typeds (trees_of d))

-- Each name has the place of the form that defines it, and no other name has one; the order of evaluation is a good one; and
-- each tree can stand in a text of the contract's version.
pub record IsIndexed (c : Checked) : Type 0 where
  pub placed : (x : List ℕ) (n : ℕ) → name_at (forms_of c) n ≡ Some x → named_in x c.places.entries ≡ Some n
  pub named : (x : List ℕ) (n : ℕ) → named_in x c.places.entries ≡ Some n → name_at (forms_of c) n ≡ Some x
  pub order : IsGoodOrder (forms_of c) c.order.items
  pub goes : list_all (goes c.version) c.definitions.items ≡ true

-- a value of the type that is given to the constant of a name
pub record IsConstant (c : Checked) (x : List ℕ) (v : Val) : Type 0 where
  pub constant : TypedConstant
  pub there : definition_under x c ≡ Some (Constant constant)
  pub typed : inhabits v (type_given constant) ≡ true

-- each value that is kept is of the type of the constant of its name
pub record AreConstants (c : Contract) : Type 0 where
  pub each : (x : List ℕ) (v : Val) → value_of x c.constants ≡ Some v → IsConstant c.checked x v

-- ---- the contract of a principal

-- the contract that is deployed under a principal
abbrev pub contract_under : Principal → List (Principal × Contract) → Option Contract
contract_under p [] = None
contract_under p (e ∷ es) = if same_principal e.0 p then Some e.1 else contract_under p es

-- a contract is deployed under its own principal, its names are indexed, and its constants have their types
pub record IsEntry (e : Principal × Contract) : Type 0 where
  pub principal : e.1.checked.principal ≡ e.0
  pub valid : IsPrincipal e.0
  pub indexed : IsIndexed e.1.checked
  pub constants : AreConstants e.1

abbrev pub AreEntries : List (Principal × Contract) → Type 0
AreEntries [] = Unit {0}
AreEntries (e ∷ es) = IsEntry e × AreEntries es

-- each deployed contract is such a one
pub record AreIndexed (d : Deployed) : Type 0 where
  pub each : AreEntries d.contracts
