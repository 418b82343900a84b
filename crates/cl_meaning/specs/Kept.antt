-- States that are as their contracts say.
use Rattle.std.specs.Prelude.{◌≡◌, ◌⊎◌, ℕ, ◌<◌, ◌^◌, List, [], ◌∷◌, unwrap_or, Contains, Option, Some, None}
use Rattle.cl_types.specs.Types.{PlainType}
use Rattle.cl_c32.specs.declared.principal.Principal.{Principal}
use Rattle.cl_sexpr.specs.Tree.{Tree}
use Rattle.cl_values.specs.Tree.{Tree as Val}
use Rattle.cl_values.specs.Wire.{wire}
use Rattle.cl_values.specs.Valid.{IsPrincipal}
use Rattle.cl_values.specs.Typed.{IsOf}
use Rattle.cl_maps.specs.Maps.{Map, get}
use Rattle.cl_tokens.specs.Ledger.{Ledger, IsLedger, most_of}
use Rattle.cl_tokens.specs.Owners.{Owners}
use Rattle.cl_forms.specs.Forms.{Form, FormKind, VariableForm, MapForm, FungibleForm, NonFungibleForm, ExpressionForm}
use Rattle.cl_events.specs.State.{State, holder, place, spot}
use Rattle.cl_meaning.specs.Deployed.{Contract, Deployed, form_of}

-- a deployed contract defines a name in this way
pub record Defines (W : Deployed) (c : Contract) (x : List ℕ) (kind : FormKind) : Type 0 where
  pub there : Contains W c
  pub form : form_of x c.forms ≡ Some kind

-- the key is that of a principal
pub record IsHolder (key : List ℕ) : Type 0 where
  pub principal : Principal
  pub valid : IsPrincipal principal
  pub spelled : key ≡ holder principal

-- a ledger whose holders are principals
pub record IsHeld (l : Ledger) : Type 0 where
  pub ledger : IsLedger l
  pub holders : (key : List ℕ) (n : ℕ) → get key l.balances ≡ Some n → IsHolder key

-- the key is that of a value of a type
pub record IsKeyOf (t : PlainType) (key : List ℕ) : Type 0 where
  pub value : Val
  pub typed : IsOf value t
  pub spelled : key ≡ wire value

-- owners, who are principals, of assets whose identifiers are of a type
pub record AreOwners (t : PlainType) (owners : Owners) : Type 0 where
  pub assets : (id owner : List ℕ) → get id owners ≡ Some owner → IsKeyOf t id
  pub principals : (id owner : List ℕ) → get id owners ≡ Some owner → IsHolder owner

-- the key is that of a variable, whose type the value has
pub record IsVariable (W : Deployed) (key : List ℕ) (v : Val) : Type 0 where
  pub contract : Contract
  pub name : List ℕ
  pub type : PlainType
  pub initial : Tree
  pub defined : Defines W contract name (VariableForm type initial)
  pub place : key ≡ place contract.principal name
  pub typed : IsOf v type

-- the key is that of an entry of a map, whose types the entry's key and the value have
pub record IsEntry (W : Deployed) (key : List ℕ) (v : Val) : Type 0 where
  pub contract : Contract
  pub name : List ℕ
  pub key_type : PlainType
  pub value_type : PlainType
  pub defined : Defines W contract name (MapForm key_type value_type)
  pub entry_key : Val
  pub spot : key ≡ spot contract.principal name entry_key
  pub key_typed : IsOf entry_key key_type
  pub typed : IsOf v value_type

-- the key is that of a fungible token, of which there can be no more than 128 bits count
pub record IsFungible (W : Deployed) (key : List ℕ) (l : Ledger) : Type 0 where
  pub contract : Contract
  pub name : List ℕ
  pub supply : Option Tree
  pub defined : Defines W contract name (FungibleForm supply)
  pub place : key ≡ place contract.principal name
  pub held : IsHeld l
  pub capped : most_of l.cap < 2 ^ 128

-- the key is that of a non-fungible token
pub record IsNonFungible (W : Deployed) (key : List ℕ) (owners : Owners) : Type 0 where
  pub contract : Contract
  pub name : List ℕ
  pub type : PlainType
  pub defined : Defines W contract name (NonFungibleForm type)
  pub place : key ≡ place contract.principal name
  pub owned : AreOwners type owners

-- something stands under a key
pub record Stands {A : Type 0} (m : Map A) (key : List ℕ) : Type 0 where
  pub value : A
  pub there : get key m ≡ Some value

-- ---- how far contracts are defined

-- a definition, which has a name
abbrev pub IsDefinition : FormKind → Type 0
IsDefinition (ExpressionForm e) = ⊥
IsDefinition kind = Unit {0}

-- one of the forms defines the name
abbrev pub IsAmong : List ℕ → List Form → Type 0
IsAmong x [] = ⊥
IsAmong x (form ∷ forms) = (IsDefinition form.kind × (unwrap_or form.name [] ≡ x)) ⊎ IsAmong x forms

-- between deployments contracts are whole; in the middle of one these forms of the contract of a principal are evaluated
pub data Stage : Type 0 where
  Whole : Stage
  Behind : Principal → List Form → Stage

-- the name of the contract of a principal is defined so far
abbrev pub IsSoFar : Stage → Principal → List ℕ → Type 0
IsSoFar Whole q x = Unit {0}
IsSoFar (Behind p forms) q x = q ≡ p → IsAmong x forms

-- ---- states

-- A state is as the deployed contracts say, as far as they are defined: each variable and each token that is defined so far is
-- there, nothing stands in it but what the contracts define, and all values, keys and identifiers have their types; balances
-- sum to their supply, which is at most the cap and has 128 bits.
pub record Kept (W : Deployed) (stage : Stage) (s : State) : Type 0 where
  pub variables_there : (c : Contract) (x : List ℕ) (t : PlainType) (e : Tree) → Defines W c x (VariableForm t e) → IsSoFar stage c.principal x → Stands s.variables (place c.principal x)
  pub variables : (key : List ℕ) (v : Val) → get key s.variables ≡ Some v → IsVariable W key v
  pub entries : (key : List ℕ) (v : Val) → get key s.entries ≡ Some v → IsEntry W key v
  pub fungibles_there : (c : Contract) (x : List ℕ) (e : Option Tree) → Defines W c x (FungibleForm e) → IsSoFar stage c.principal x → Stands s.fungibles (place c.principal x)
  pub fungibles : (key : List ℕ) (l : Ledger) → get key s.fungibles ≡ Some l → IsFungible W key l
  pub nonfungibles_there : (c : Contract) (x : List ℕ) (t : PlainType) → Defines W c x (NonFungibleForm t) → IsSoFar stage c.principal x → Stands s.nonfungibles (place c.principal x)
  pub nonfungibles : (key : List ℕ) (owners : Owners) → get key s.nonfungibles ≡ Some owners → IsNonFungible W key owners
  pub stx : IsHeld s.stx
  pub uncapped : s.stx.cap ≡ None
