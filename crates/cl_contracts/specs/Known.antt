-- What callers know of a deployed contract is what the code keeps of it.
use Rattle.std.specs.Prelude.{◌≡◌, ℕ, List, Option, Some, None, option_map}
use Rattle.cl_types.specs.Types.{PlainType}
use Rattle.cl_types.specs.declared.sized.Access.{Access}
use Rattle.cl_c32.specs.declared.principal.Principal.{Principal}
use Rattle.cl_code.specs.declared.definition.Function.{Function as TypedFunction}
use Rattle.cl_rules.specs.Context.{Signature, Known, known_at, named_in, signature_in}
use Rattle.cl_rules.specs.FormRules.{Defined}
use Rattle.cl_contracts.specs.declared.parts.Parts.{Parts as Checked}
use Rattle.cl_contracts.specs.Contents.{ContractParts as Contract, DeployedParts as Deployed}
use Rattle.cl_contracts.specs.Seen.{constant_under, function_under, type_given, contract_under, AreIndexed, IsIndexed}
use Rattle.cl_contracts.specs.Standings.{Knows, StandsAfter}

-- a function as its callers see it, but for its name and its bound
pub record Shown : Type 0 where
  pub access : Access
  pub params : List (List ℕ × PlainType)
  pub returns : PlainType
  pub height : ℕ

abbrev pub seen : Signature → Shown
seen f = record { access = f.access; params = f.params; returns = f.returns; height = f.height }

abbrev pub shown : TypedFunction → Shown
shown f = record { access = f.access; params = f.params.items; returns = f.returns; height = f.height }

-- a contract's length and its functions, but for their bounds, are those that its callers know
pub record IsKnownAs (c : Contract) (k : Known) : Type 0 where
  pub length : k.length ≡ c.checked.source_length
  pub functions : (x : List ℕ) → option_map seen (signature_in x k.functions) ≡ option_map shown (function_under x c.checked)

abbrev pub AreKnownAs : Option Contract → Option Known → Type 0
AreKnownAs None None = Unit {0}
AreKnownAs (Some c) (Some k) = IsKnownAs c k
AreKnownAs c k = ⊥

-- callers know a contract at a principal just where one is deployed, and as it is
abbrev pub KnownAsDeployed : Type 0
KnownAsDeployed = (d : Deployed) (known : List Known) → AreIndexed d → Knows d known → (p : Principal) → AreKnownAs (contract_under p d.contracts) (known_at p known)

-- what stands for a contract defines its functions as it has them
abbrev pub DefinedAsKept : Type 0
DefinedAsKept = (before : List Known) (c : Checked) (defined : Defined) → IsIndexed c → StandsAfter before c defined → (x : List ℕ) → option_map seen (signature_in x defined.context.functions) ≡ option_map shown (function_under x c)

-- and its constants with the types that it gives them
abbrev pub ConstantsAsKept : Type 0
ConstantsAsKept = (before : List Known) (c : Checked) (defined : Defined) → IsIndexed c → StandsAfter before c defined → (x : List ℕ) → named_in x defined.context.constants ≡ option_map type_given (constant_under x c)
