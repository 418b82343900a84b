-- Deployments of accepted contracts are sound.
use Rattle.std.specs.Prelude.{◌≡◌, ℕ, ◌<◌, ◌^◌, List, [], ◌∷◌, ◌++◌, length, Some, None}
use Rattle.cl_c32.specs.declared.principal.Principal.{Principal}
use Rattle.cl_shapes.specs.declared.cost.Cost5.{Cost5}
use Rattle.cl_shapes.specs.Costs.{plus, IsAtMost}
use Rattle.cl_shapes.specs.Limits.{Purse}
use Rattle.cl_values.specs.Tree.{Tree as Val}
use Rattle.cl_values.specs.Valid.{IsPrincipal}
use Rattle.cl_forms.specs.Texts.{Text}
use Rattle.cl_forms.specs.Forms.{Form}
use Rattle.cl_events.specs.State.{State, genesis}
use Rattle.std.specs.List.{All}
use Rattle.cl_meaning.specs.Answers.{Outcome, Given, Thrown, Aborted, Wrong, Deeper, Answer}
use Rattle.cl_meaning.specs.Deployed.{Contract, Deployed, contract_at}
use Rattle.cl_meaning.specs.Deploying.{in_order, deployment}
use Rattle.cl_meaning.specs.Limits.{cost, Within, Limited, Gave, Threw, AbortedBy, Passed, Lost, limit_on, limited}
use Rattle.cl_meaning.specs.Scope.{Frame}
use Rattle.cl_rules.specs.Bills.{cost_under}
use Rattle.cl_rules.specs.Context.{CostTable, Known, known_at}
use Rattle.cl_rules.specs.FormRules.{Defined, nothing_defined}
use Rattle.cl_rules.specs.FormTyping.{FormsTyped}
use Rattle.cl_rules.specs.Acceptance.{Accepted, known_of}
use Rattle.cl_meaning.specs.Kept.{Whole, Behind, Kept, IsDefinition}
use Rattle.cl_forms.specs.Fits.{KindFits}
use Rattle.cl_expression_sound.specs.Sound.{AreBound}
use Rattle.cl_expression_sound.specs.Stages.{IsDefining, AreDistinct, AreKnown}
use Rattle.cl_contract_sound.specs.Nodes.{IsNode}
use Rattle.cl_contract_sound.specs.Laws.{spent_in}

-- each form is what its name stands for, and its literals fit
abbrev pub AreItsForms : Contract → List Form → Type 0
AreItsForms c [] = Unit {0}
AreItsForms c (form ∷ forms) = (IsDefinition form.kind → IsDefining c form) × KindFits form.kind × AreItsForms c forms

-- the contract with these values of its constants
abbrev pub with_values : Contract → List (List ℕ × Val) → Contract
with_values c values = record c { constants = values }

-- What a deployment leaves after some forms: the contract with values of their constants, which have their types, and a state
-- that is kept as far as these forms are defined.
pub record IsDone (W : Deployed) (c : Contract) (order : List Form) (E : Defined) (d : Contract) (s : State) : Type 0 where
  pub values : List (List ℕ × Val)
  pub is : d ≡ with_values c values
  pub constants : AreBound E.context.constants values
  pub kept : Kept (with_values c values ∷ W) (Behind c.principal order) s

-- a deployment is done, or throws a value at the top, or aborts
abbrev pub IsFineEnd : (Contract → State → Type 0) → Outcome Contract → State → Type 0
IsFineEnd Done (Given d) s = Done d s
IsFineEnd Done (Thrown v) s = Unit {0}
IsFineEnd Done (Aborted why) s = Unit {0}
IsFineEnd Done Wrong s = ⊥
IsFineEnd Done Deeper s = ⊥

pub record IsSoundDeployment (costs : CostTable) (Done : Contract → State → Type 0) (bound : Cost5) (a : Answer Contract) : Type 0 where
  pub outcome : IsFineEnd Done a.outcome a.state
  pub within : IsAtMost (cost costs a) bound

-- The deployment of a contract whose forms are typed in their order, after the deployed contracts, in a state that is kept.
abbrev pub DeploymentsAreSound : Type 0
DeploymentsAreSound =
    (costs : CostTable) (W : Deployed) → AreDistinct W → (ks : List Known) → AreKnown W Whole ks →
    (c : Contract) → c.constants ≡ [] → IsPrincipal c.principal → contract_at c.principal W ≡ None →
    (order : List Form) → in_order c.forms ≡ Some order → AreItsForms c order → (E : Defined) → FormsTyped (nothing_defined ks c.principal c.version c.source_length) order E →
    (F : Frame) → F.contract ≡ c.principal → IsPrincipal F.sender → IsPrincipal F.caller → F.height < 2 ^ 128 → (s : State) → Kept W Whole s →
    IsSoundDeployment costs (IsDone W c order E) (cost_under costs E.deploy) (deployment W F c s)

-- ---- texts

abbrev pub of_text : Principal → Text → List Form → Contract
of_text principal text forms = record { principal = principal; version = text.version; forms = forms; source_length = length text.bytes; constants = [] }

-- A deployment of an accepted text, at a node and under each table, is sound, and where it gives a contract there is a node again:
-- with the contract, and with what the text defines.
abbrev pub TextsAreSound : Type 0
TextsAreSound =
    (W : Deployed) (ks : List Known) (s : State) → IsNode W ks s →
    (principal : Principal) → IsPrincipal principal → known_at principal ks ≡ None → (costs : CostTable) (text : Text) (accepted : Accepted ks principal costs text) → (table : CostTable) →
    (F : Frame) → F.contract ≡ principal → IsPrincipal F.sender → IsPrincipal F.caller → F.height < 2 ^ 128 →
    IsSoundDeployment table (λ d t. IsNode (d ∷ W) (ks ++ known_of principal (length text.bytes) accepted.defined ∷ []) t) (cost_under table accepted.defined.deploy) (deployment W F (of_text principal text accepted.forms) s)

-- before all deployments there is a node, with STX of these holders
abbrev pub GenesisIsNode : Type 0
GenesisIsNode = (holders : List (Principal × ℕ)) → All (λ (h : Principal × ℕ). IsPrincipal h.0) holders → IsNode [] [] (genesis holders)

-- ---- limits

-- what a limit leaves of a sound deployment: the contract, a value that is thrown at the top, an abort, or a charge with which the
-- sum is above the limit
abbrev pub IsFineEndUnder : (Contract → State → Type 0) → Limited Contract → Type 0
IsFineEndUnder Done (Gave c s p) = Done c s
IsFineEndUnder Done (Threw v s p) = Unit {0}
IsFineEndUnder Done (AbortedBy why p) = Unit {0}
IsFineEndUnder Done (Passed over p) = Unit {0}
IsFineEndUnder Done (Lost p) = ⊥

-- under any limit and any table, also another than that of the bound
abbrev pub LimitsLeaveDeployments : Type 0
LimitsLeaveDeployments =
    (table : CostTable) (W : Deployed) (ks : List Known) (bound : Cost5) (a : Answer Contract) → IsSoundDeployment table (λ d t. IsNode (d ∷ W) ks t) bound a →
    (others : CostTable) (p : Purse) → IsFineEndUnder (λ d t. IsNode (d ∷ W) ks t) (limited others p a)

-- a limit that is no less than the bound and what is spent before cuts nothing off, and what it costs is spent
abbrev pub BoundsSufficeForDeployments : Type 0
BoundsSufficeForDeployments =
    (table : CostTable) (W : Deployed) (ks : List Known) (bound : Cost5) (a : Answer Contract) → IsSoundDeployment table (λ d t. IsNode (d ∷ W) ks t) bound a →
    (p : Purse) → IsAtMost (plus p.spent bound) p.limit →
    limited table p a ≡ limit_on (Within (record { limit = p.limit; spent = plus p.spent (cost table a) })) a.outcome a.state

-- what is spent in the end is at most the bound and what was spent before
abbrev pub DeploymentsSpendWithin : Type 0
DeploymentsSpendWithin =
    (table : CostTable) (W : Deployed) (ks : List Known) (bound : Cost5) (a : Answer Contract) → IsSoundDeployment table (λ d t. IsNode (d ∷ W) ks t) bound a →
    (p : Purse) → IsAtMost (spent_in (limited table p a)) (plus p.spent bound)
