-- What stands around an expression: the forms before it in the order of evaluation, the deployed contracts, and the names
-- that are bound.
use Rattle.std.specs.Prelude.{ℕ, ◌||◌, Bool, List, [], ◌∷◌, ◌++◌, if◌then◌else◌, Option, Some, None, is_some}
use Rattle.std.specs.List.{list_any}
use Rattle.cl_types.specs.Types.{PlainType, NoType, BoolType, UintType, PrincipalType, OptionalType}
use Rattle.cl_types.specs.declared.sized.Access.{Access}
use Rattle.cl_c32.specs.declared.principal.Principal.{Principal}
pub use Rattle.cl_c32.specs.Principals.{same_part, same_principal}
pub use Rattle.cl_shapes.specs.Names.{CostTable}
use Rattle.cl_forms.specs.declared.keyword.Keyword.{Keyword}
use Rattle.cl_forms.specs.declared.keyword.Keyword.TheVariants as keys
use Rattle.cl_forms.specs.Names.{is_one_of}
pub use Rattle.cl_forms.specs.Names.{same, named_in}
use Rattle.cl_forms.specs.Shapes.{open_to_others}
use Rattle.cl_forms.specs.declared.version.Version.{Version}
use Rattle.cl_forms.specs.Heads.{native, is_reserved, define_words}
use Rattle.cl_rules.specs.Bills.{Bill}

-- ---- functions and contracts

-- A function as its callers see it. The height and the bound are those of its application.
pub record Signature : Type 0 where
  pub name : List ℕ
  pub access : Access
  pub params : List (List ℕ × PlainType)
  pub returns : PlainType
  pub height : ℕ
  pub bound : Bill

-- a deployed contract as its callers see it: its functions, and the length of its text
pub record Known : Type 0 where
  pub principal : Principal
  pub length : ℕ
  pub functions : List Signature

-- The contract that is checked, the version of its text, the deployed ones, and the forms before: constants and variables with their types, maps with
-- the types of their keys and values, non-fungible tokens with the types of their assets' ids.
pub record Context : Type 0 where
  pub principal : Principal
  pub version : Version
  pub deployed : List Known
  pub constants : List (List ℕ × PlainType)
  pub variables : List (List ℕ × PlainType)
  pub maps : List (List ℕ × (PlainType × PlainType))
  pub fungibles : List (List ℕ)
  pub nonfungibles : List (List ℕ × PlainType)
  pub functions : List Signature

-- names that are bound with their types, the innermost last
abbrev pub Names : Type 0
Names = List (List ℕ × PlainType)

-- ---- what stands under a name

abbrev pub signature_in : List ℕ → List Signature → Option Signature
signature_in x [] = None
signature_in x (f ∷ fs) = if same f.name x then Some f else signature_in x fs

abbrev pub known_at : Principal → List Known → Option Known
known_at p [] = None
known_at p (k ∷ ks) = if same_principal k.principal p then Some k else known_at p ks

abbrev pub is_named : {A : Type 0} → List ℕ → List (List ℕ × A) → Bool
is_named x es = is_some (named_in x es)

-- a name of a form before
abbrev pub is_top_level : Context → List ℕ → Bool
is_top_level G x =
    is_named x G.constants || is_named x G.variables || is_named x G.maps || list_any (same x) G.fungibles
    || is_named x G.nonfungibles || is_some (signature_in x G.functions)

-- a name that no binding may have: it is reserved, top-level, or bound outside
abbrev pub is_taken : Context → Names → List ℕ → Bool
is_taken G B x = is_reserved G.version x || is_top_level G x || is_named x B

-- a name that stands for no value: that of a native, a function, a variable, a map, a token, or a define word
abbrev pub is_no_value : Context → List ℕ → Bool
is_no_value G x =
    is_some (native G.version x) || is_some (signature_in x G.functions) || is_named x G.variables || is_named x G.maps
    || list_any (same x) G.fungibles || is_named x G.nonfungibles || is_one_of define_words x

-- one more name that is bound
abbrev pub bind : List ℕ → PlainType → Names → Names
bind x t B = B ++ (x, t) ∷ []

-- ---- keywords

abbrev pub keyword_type : Keyword → PlainType
keyword_type keys.True = BoolType
keyword_type keys.False = BoolType
keyword_type keys.None = OptionalType NoType
keyword_type keys.TxSender = PrincipalType
keyword_type keys.ContractCaller = PrincipalType
keyword_type keys.BlockHeight = UintType

-- ---- functions of other contracts

-- a function that other contracts may call
abbrev pub if_callable : Option Signature → Option Signature
if_callable None = None
if_callable (Some f) = open_to_others f.access f

-- another contract than the own one, which is deployed
abbrev pub another_at : Principal → List Known → Principal → Option Known
another_at own deployed p = if same_principal p own then None else known_at p deployed

abbrev pub target_at : Context → Principal → Option Known
target_at G p = another_at G.principal G.deployed p
