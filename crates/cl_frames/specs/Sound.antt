-- On what evaluations stand: contracts that were accepted, and a state that is kept as they say.
use Rattle.std.specs.Prelude.{◌≡◌, ℕ, List, length, map, Some, None}
use Rattle.cl_types.specs.Types.{PlainType}
use Rattle.cl_c32.specs.declared.principal.Principal.{Principal}
use Rattle.cl_shapes.specs.Costs.{plus, IsAtMost}
use Rattle.cl_shapes.specs.Limits.{Purse}
use Rattle.cl_values.specs.Tree.{Tree as Val}
use Rattle.cl_values.specs.Typed.{IsOf, AreOf}
use Rattle.cl_forms.specs.Texts.{Text}
use Rattle.cl_events.specs.State.{State}
use Rattle.cl_rules.specs.Acceptance.{Accepted}
use Rattle.cl_rules.specs.Bills.{cost_under}
use Rattle.cl_rules.specs.Context.{CostTable, Known, Signature, known_at, signature_in}
use Rattle.cl_meaning.specs.Deployed.{Deployed, Function, contract_at, function_of}
use Rattle.cl_contracts.specs.declared.checked.Checked.{Checked}
use Rattle.cl_contracts.specs.Seen.{forms_of}
use Rattle.cl_contract_sound.specs.Nodes.{AreContracts, IsNode}

-- the deployed contracts were accepted one after another, each under some table of costs, and a state is kept as they say
pub record IsKeptWorld (W : Deployed) (s : State) : Type 0 where
  pub known : List Known
  pub node : IsNode W known s

-- ---- calls

-- a function of this name is in the contract of a principal, and these are values of its parameters' types
pub record IsFittingCall (W : Deployed) (p : Principal) (x : List ℕ) (vs : List Val) : Type 0 where
  pub function : Function
  pub there : function_of x (contract_at p W) ≡ Some function
  pub fitting : AreOf vs (map (λ (param : List ℕ × PlainType). param.1) function.params)

-- a value is of the type that callers see returned by a function
abbrev pub IsReturnOf : Deployed → Principal → List ℕ → Val → Type 0
IsReturnOf W p x v =
    (known : List Known) → AreContracts W known →
    (k : Known) → known_at p known ≡ Some k → (g : Signature) → signature_in x k.functions ≡ Some g → IsOf v g.returns

-- what is spent of a purse, after want of memory too, is at most what was spent before and the bound of the function that callers
-- see
abbrev pub SpendsWithin : CostTable → Deployed → Principal → List ℕ → Purse → Purse → Type 0
SpendsWithin table W p x before after =
    (known : List Known) → AreContracts W known →
    (k : Known) → known_at p known ≡ Some k → (g : Signature) → signature_in x k.functions ≡ Some g → IsAtMost after.spent (plus before.spent (cost_under table g.bound))

-- ---- deployments

-- A contract stands for a text that is accepted after the deployed contracts, under some table of costs, and none of them has its
-- principal; and a state is kept as they say.
pub record IsAcceptedAfter (W : Deployed) (s : State) (c : Checked) : Type 0 where
  pub costs : CostTable
  pub known : List Known
  pub node : IsNode W known s
  pub new : known_at c.principal known ≡ None
  pub text : Text
  pub accepted : Accepted known c.principal costs text
  pub forms : forms_of c ≡ accepted.forms
  pub order : c.order.items ≡ accepted.order
  pub version : c.version ≡ text.version
  pub size : c.source_length ≡ length text.bytes

-- what is spent of a purse is at most what was spent before and the bound of the deployment
abbrev pub DeploySpendsWithin : CostTable → Deployed → State → Checked → Purse → Purse → Type 0
DeploySpendsWithin table W s c before after = (a : IsAcceptedAfter W s c) → IsAtMost after.spent (plus before.spent (cost_under table a.accepted.defined.deploy))
