-- Deployed contracts, and what stands in them under a name.
use Rattle.std.specs.Prelude.{ℕ, Bool, true, false, List, [], ◌∷◌, if◌then◌else◌, option_and_then, Option, Some, None}
use Rattle.std.specs.Str.{bytes_eq}
use Rattle.cl_types.specs.Types.{PlainType}
use Rattle.cl_types.specs.declared.sized.Access.{Access}
use Rattle.cl_c32.specs.declared.principal.Principal.{Principal}
use Rattle.cl_sexpr.specs.Tree.{Tree}
use Rattle.cl_values.specs.Tree.{Tree as Val}
use Rattle.cl_forms.specs.declared.version.Version.{Version}
use Rattle.cl_forms.specs.Heads.{Row, native}
use Rattle.cl_forms.specs.Forms.{Form, FormKind, MapForm, FunctionForm}
pub use Rattle.cl_forms.specs.Names.{named_in as value_of}
use Rattle.cl_events.specs.State.{is_principal}

-- a contract: its principal, the version of its text, its forms, the length of its text, and the values of its constants
pub record Contract : Type 0 where
  pub principal : Principal
  pub version : Version
  pub forms : List Form
  pub source_length : ℕ
  pub constants : List (List ℕ × Val)

abbrev pub Deployed : Type 0
Deployed = List Contract

abbrev pub contract_at : Principal → Deployed → Option Contract
contract_at p [] = None
contract_at p (c ∷ cs) = if is_principal c.principal p then Some c else contract_at p cs

pub record Function : Type 0 where
  pub name : List ℕ
  pub access : Access
  pub params : List (List ℕ × PlainType)
  pub body : Tree

abbrev pub has_name : List ℕ → Option (List ℕ) → Bool
has_name x None = false
has_name x (Some y) = bytes_eq y x

-- the form that defines a name
abbrev pub form_of : List ℕ → List Form → Option FormKind
form_of x [] = None
form_of x (f ∷ fs) = if has_name x f.name then Some f.kind else form_of x fs

abbrev pub as_function : List ℕ → FormKind → Option Function
as_function x (FunctionForm access params body) = Some (record { name = x; access = access; params = params; body = body })
as_function x kind = None

-- the function of a name
abbrev pub function_in : List ℕ → List Form → Option Function
function_in x fs = option_and_then (as_function x) (form_of x fs)

-- the native of a name in a contract that may not be there, by the version of its text
abbrev pub native_of : List ℕ → Option Contract → Option Row
native_of x None = None
native_of x (Some c) = native c.version x

-- the function of a name in a contract that may not be there
abbrev pub function_of : List ℕ → Option Contract → Option Function
function_of x None = None
function_of x (Some c) = function_in x c.forms

abbrev pub is_map : Option FormKind → Bool
is_map (Some (MapForm key value)) = true
is_map form = false

-- whether a contract has a map of this name
abbrev pub has_map : List ℕ → Option Contract → Bool
has_map x None = false
has_map x (Some c) = is_map (form_of x c.forms)

-- the value of a contract's constant
abbrev pub constant_of : List ℕ → Option Contract → Option Val
constant_of x None = None
constant_of x (Some c) = value_of x c.constants
