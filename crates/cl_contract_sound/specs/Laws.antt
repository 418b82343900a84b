-- Calls of functions of deployed contracts are sound.
use Rattle.std.specs.Prelude.{◌≡◌, ℕ, ◌<◌, ◌≤◌, ◌^◌, true, List, length, Some}
use Rattle.cl_types.specs.Types.{PlainType}
use Rattle.cl_types.specs.Name.{IsName}
use Rattle.cl_types.specs.declared.sized.Access.{Access}
use Rattle.cl_types.specs.declared.sized.Access.TheVariants.{Public}
use Rattle.cl_c32.specs.declared.principal.Principal.{Principal}
use Rattle.cl_values.specs.Tree.{Tree as Val}
use Rattle.cl_values.specs.Valid.{IsPrincipal}
use Rattle.cl_events.specs.State.{State}
use Rattle.cl_meaning.specs.Deployed.{Contract, Deployed, Function, contract_at, function_in, function_of}
use Rattle.cl_meaning.specs.Scope.{Frame, BoundValues}
use Rattle.cl_meaning.specs.Meaning.{means}
use Rattle.cl_meaning.specs.Answers.{Answer}
use Rattle.cl_meaning.specs.Limits.{cost, Within, Limited, Gave, Threw, AbortedBy, Passed, Lost, limit_on, limited}
use Rattle.cl_meaning.specs.Top.{call_from}
use Rattle.cl_meaning.specs.Kept.{Whole, Kept}
use Rattle.cl_rules.specs.Bills.{cost_under}
use Rattle.cl_rules.specs.Context.{CostTable, Context, Names, Known, Signature, known_at, signature_in}
use Rattle.cl_rules.specs.Verdicts.{Found}
use Rattle.cl_rules.specs.Typing.{Typed}
use Rattle.cl_shapes.specs.declared.cost.Cost5.{Cost5}
use Rattle.cl_shapes.specs.Costs.{plus, IsAtMost}
use Rattle.cl_shapes.specs.Limits.{Purse}
use Rattle.cl_sexpr.specs.Tree.{Tree}
use Rattle.cl_sexpr.specs.Fits.{Fits}
use Rattle.cl_expression_sound.specs.Sound.{IsSound, IsAsFound, IsFrame, AreBound, NoThrow, scope, types_of_params, deployed_world}
use Rattle.cl_expression_sound.specs.Stages.{AreDistinct, IsContext}
use Rattle.cl_contract_sound.specs.Nodes.{AreContracts}
use Rattle.cl_values.specs.Typed.{IsOf, AreOf}
use Rattle.cl_types.specs.TypeKinds.{is_response}

-- the value of a public function is a response
abbrev pub Answers : Access → PlainType → Type 0
Answers Public t = is_response t ≡ true
Answers access t = Unit {0}

-- The contract has the function, with the access and parameters of its signature. A call of it with values of its parameters'
-- types, in any frame and any state that is kept, gives a value of its return type or aborts, leaves a state that is kept, and
-- costs at most its bound, under the table.
pub record IsSoundFunction (costs : CostTable) (W : Deployed) (p : Principal) (x : List ℕ) (g : Signature) : Type 0 where
  pub function : Function
  pub there : function_of x (contract_at p W) ≡ Some function
  pub access : function.access ≡ g.access
  pub params : function.params ≡ g.params
  pub answers : Answers g.access g.returns
  pub sound :
      (F : Frame) → F.contract ≡ p → IsPrincipal F.sender → IsPrincipal F.caller → F.height < 2 ^ 128 → (vs : List Val) → AreOf vs (types_of_params g) → (s : State) → Kept W Whole s →
      IsSound (deployed_world costs W Whole) (λ v. IsOf v g.returns) NoThrow (cost_under costs g.bound) (call_from W F function vs s)

-- each function of each deployed contract, under each table, also another than that under which the texts were accepted
abbrev pub FunctionsAreSound : Type 0
FunctionsAreSound =
    (W : Deployed) (ks : List Known) → AreContracts W ks → (table : CostTable) →
    (p : Principal) (k : Known) → known_at p ks ≡ Some k → (x : List ℕ) (g : Signature) → signature_in x k.functions ≡ Some g → IsSoundFunction table W p x g

-- callers see the function of this name at a principal
pub record IsSigned (ks : List Known) (p : Principal) (x : List ℕ) : Type 0 where
  pub known : Known
  pub signature : Signature
  pub there : known_at p ks ≡ Some known
  pub told : signature_in x known.functions ≡ Some signature

-- and these are all the functions that evaluations find in a deployed contract
abbrev pub FunctionsAreSigned : Type 0
FunctionsAreSigned =
    (W : Deployed) (ks : List Known) → AreContracts W ks →
    (p : Principal) → IsPrincipal p → (c : Contract) → contract_at p W ≡ Some c → (x : List ℕ) (f : Function) → function_in x c.forms ≡ Some f → IsSigned ks p x

-- each is called by a name, and has few parameters
abbrev pub FunctionsAreNamed : Type 0
FunctionsAreNamed =
    (W : Deployed) (ks : List Known) → AreContracts W ks →
    (p : Principal) → IsPrincipal p → (c : Contract) → contract_at p W ≡ Some c → (x : List ℕ) (f : Function) → function_in x c.forms ≡ Some f → IsName x × (length f.params < 2 ^ 32)

-- ---- expressions

-- An expression that is typed in a context of a deployed contract, and whose literals are within their limits, is as was found of
-- it, at each depth that is no less than its height.
abbrev pub ExpressionsAreSound : Type 0
ExpressionsAreSound =
    (costs : CostTable) (W : Deployed) → AreDistinct W →
    (G : Context) → IsContext W Whole G → (F : Frame) → IsFrame G F → (B : Names) (E : BoundValues) → AreBound B E → (e : Tree) (f : Found) → Typed G B e f → Fits e →
    (depth : ℕ) → f.height ≤ depth → (s : State) → Kept W Whole s →
    IsAsFound (deployed_world costs W Whole) f (means depth (scope (deployed_world costs W Whole) F E) e s)

-- ---- limits

-- What a limit leaves of a sound answer of a function: a value that is expected and a state that is kept, an abort, or a charge
-- with which the sum is above the limit.
abbrev pub IsFineUnder : (Val → Type 0) → (State → Type 0) → Limited Val → Type 0
IsFineUnder Expected Keeps (Gave v s p) = Expected v × Keeps s
IsFineUnder Expected Keeps (Threw v s p) = ⊥
IsFineUnder Expected Keeps (AbortedBy why p) = Unit {0}
IsFineUnder Expected Keeps (Passed over p) = Unit {0}
IsFineUnder Expected Keeps (Lost p) = ⊥

-- under any limit and any table, also another than that of the bound
abbrev pub LimitsLeaveSound : Type 0
LimitsLeaveSound =
    (costs : CostTable) (W : Deployed) (t : PlainType) (bound : Cost5) (a : Answer Val) → IsSound (deployed_world costs W Whole) (λ v. IsOf v t) NoThrow bound a →
    (others : CostTable) (p : Purse) → IsFineUnder (λ v. IsOf v t) (Kept W Whole) (limited others p a)

-- a limit that is no less than the bound and what is spent before cuts nothing off, and what it costs is spent
abbrev pub BoundsSuffice : Type 0
BoundsSuffice =
    (costs : CostTable) (W : Deployed) (t : PlainType) (bound : Cost5) (a : Answer Val) → IsSound (deployed_world costs W Whole) (λ v. IsOf v t) NoThrow bound a →
    (p : Purse) → IsAtMost (plus p.spent bound) p.limit →
    limited costs p a ≡ limit_on (Within (record { limit = p.limit; spent = plus p.spent (cost costs a) })) a.outcome a.state

-- what is spent in the end
abbrev pub spent_in : {A : Type 0} → Limited A → Cost5
spent_in (Gave a s p) = p.spent
spent_in (Threw v s p) = p.spent
spent_in (AbortedBy why p) = p.spent
spent_in (Passed over p) = p.spent
spent_in (Lost p) = p.spent

-- it is at most the bound and what was spent before
abbrev pub CallsSpendWithin : Type 0
CallsSpendWithin =
    (costs : CostTable) (W : Deployed) (t : PlainType) (bound : Cost5) (a : Answer Val) → IsSound (deployed_world costs W Whole) (λ v. IsOf v t) NoThrow bound a →
    (p : Purse) → IsAtMost (spent_in (limited costs p a)) (plus p.spent bound)
