-- The contract that a deployment gives has the principal of the one that it begins with.
use Rattle.std.proofs.Common.{◌≡◌, ℕ, List, [], ◌∷◌, Option, Some, None, refl, sym, ap, ◌∙◌}
use Rattle.cl_c32.specs.declared.principal.Principal.{Principal}
use Rattle.cl_shapes.specs.declared.name.CostName.{CostName}
use Rattle.cl_shapes.specs.declared.name.CostName.TheVariants.{Deploy}
use Rattle.cl_shapes.specs.Limits.{Purse}
use Rattle.cl_values.specs.Tree.{Tree, UintV}
use Rattle.cl_forms.specs.Forms.{Form, FormKind, ConstantForm, VariableForm, MapForm, FungibleForm, NonFungibleForm, FunctionForm, ExpressionForm}
use Rattle.cl_events.specs.State.{State}
use Rattle.cl_meaning.specs.Answers.{Outcome, Given, Thrown, Aborted, Wrong, Deeper, Answer, Note, stop, give, wrong, charged, then_on, and_then, with_known}
use Rattle.cl_meaning.specs.Deployed.{Contract, Deployed}
use Rattle.cl_meaning.specs.Scope.{Frame}
use Rattle.cl_meaning.specs.Deploying.{with_cap, defined, all_defined, in_order, deployment}
use Rattle.cl_meaning.specs.Limits.{Costs, Paid, Within, Past, Limited, Gave, Threw, AbortedBy, Passed, Lost, limit_on, limited}

-- a contract that is given has this principal
abbrev Keeps : Principal → Answer Contract → Type 0
Keeps p a = (c : Contract) → a.outcome ≡ Given c → c.principal ≡ p

abbrev given_or : Contract → Outcome Contract → Contract
given_or d (Given c) = c
given_or d (Thrown v) = d
given_or d (Aborted why) = d
given_or d Wrong = d
given_or d Deeper = d

keeps_give : (p : Principal) (c : Contract) (s : State) → c.principal ≡ p → Keeps p (give c s)
unfolding stop
keeps_give p c s h d e = sym (ap (λ o. (given_or c o).principal) e) ∙ h

keeps_wrong : (p : Principal) (s : State) → Keeps p (wrong s)
unfolding stop
keeps_wrong p s d e = absurd cc

keeps_charged : (p : Principal) (name : CostName) (n : ℕ) (a : Answer Contract) → Keeps p a → Keeps p (charged name n a)
unfolding charged
keeps_charged p name n a h = h

keeps_then_on : {A : Type 0} (p : Principal) (o : Outcome A) (s : State) (log : List Note) (k : A → State → Answer Contract) → ((v : A) → o ≡ Given v → (t : State) → Keeps p (k v t)) → Keeps p (then_on o s log k)
keeps_then_on p (Given v) s log k h d e = h v refl s d e
keeps_then_on p (Thrown v) s log k h d e = absurd cc
keeps_then_on p (Aborted why) s log k h d e = absurd cc
keeps_then_on p Wrong s log k h d e = absurd cc
keeps_then_on p Deeper s log k h d e = absurd cc

keeps_then : {A : Type 0} (p : Principal) (a : Answer A) (k : A → State → Answer Contract) → ((v : A) → a.outcome ≡ Given v → (t : State) → Keeps p (k v t)) → Keeps p (and_then a k)
unfolding and_then
keeps_then p a k h = keeps_then_on p a.outcome a.state a.log k h

keeps_known : {A : Type 0} (p : Principal) (o : Option A) (k : A → State → Answer Contract) (s : State) → ((v : A) → Keeps p (k v s)) → Keeps p (with_known o k s)
keeps_known p None k s h = keeps_wrong p s
keeps_known p (Some v) k s h = h v

keeps_cap : (c : Contract) (x : List ℕ) (v : Tree) (s : State) → Keeps c.principal (with_cap c x v s)
keeps_cap c x (UintV n) s = keeps_charged _ _ _ _ (keeps_give _ c _ refl)
keeps_cap c x v s = keeps_wrong _ s

keeps_defined : (W : Deployed) (F : Frame) (x : List ℕ) (kind : FormKind) (c : Contract) (s : State) → Keeps c.principal (defined W F x kind c s)
unfolding defined
keeps_defined W F x (ConstantForm e) c s = keeps_then _ _ _ (λ v is t. keeps_charged _ _ _ _ (keeps_give _ _ _ refl))
keeps_defined W F x (VariableForm type e) c s = keeps_then _ _ _ (λ v is t. keeps_charged _ _ _ _ (keeps_give _ _ _ refl))
keeps_defined W F x (MapForm key value) c s = keeps_charged _ _ _ _ (keeps_give _ c s refl)
keeps_defined W F x (FungibleForm None) c s = keeps_charged _ _ _ _ (keeps_give _ c _ refl)
keeps_defined W F x (FungibleForm (Some e)) c s = keeps_then _ _ _ (λ v is t. keeps_cap c x v t)
keeps_defined W F x (NonFungibleForm type) c s = keeps_charged _ _ _ _ (keeps_give _ c _ refl)
keeps_defined W F x (FunctionForm access params body) c s = keeps_charged _ _ _ _ (keeps_give _ c s refl)
keeps_defined W F x (ExpressionForm e) c s = keeps_then _ _ _ (λ v is t. keeps_give _ c t refl)

keeps_all : (W : Deployed) (F : Frame) (fs : List Form) (p : Principal) (c : Contract) (s : State) → c.principal ≡ p → Keeps p (all_defined W F fs c s)
unfolding all_defined
keeps_all W F [] p c s h = keeps_give p c s h
keeps_all W F (f ∷ fs) p c s h = keeps_then p _ _ (λ d is t. keeps_all W F fs p d t (keeps_defined W F _ _ c s d is ∙ h))

keeps_deployment : (W : Deployed) (F : Frame) (c : Contract) (s : State) → Keeps c.principal (deployment W F c s)
unfolding deployment
keeps_deployment W F c s =
    keeps_charged _ Deploy c.source_length (with_known (in_order c.forms) (λ fs. all_defined W F fs c) s)
    (keeps_known _ (in_order c.forms) (λ fs. all_defined W F fs c) s (λ fs. keeps_all W F fs c.principal c s refl))

-- ---- under a limit

abbrev gave_or : Contract → Limited Contract → Contract
gave_or d (Gave c s purse) = c
gave_or d (Threw v s purse) = d
gave_or d (AbortedBy why purse) = d
gave_or d (Passed over purse) = d
gave_or d (Lost purse) = d

given_on : (paid : Paid) (o : Outcome Contract) (t s : State) (c : Contract) (q : Purse) → limit_on paid o t ≡ Gave c s q → o ≡ Given c
given_on (Past over p) o t s c q e = absurd cc
given_on (Within p) (Given d) t s c q e = ap (λ l. Given (gave_or d l)) e
given_on (Within p) (Thrown v) t s c q e = absurd cc
given_on (Within p) (Aborted why) t s c q e = absurd cc
given_on (Within p) Wrong t s c q e = absurd cc
given_on (Within p) Deeper t s c q e = absurd cc

pub principal_kept : (costs : Costs) (purse : Purse) (W : Deployed) (F : Frame) (c : Contract) (s : State) (d : Contract) (t : State) (q : Purse) → limited costs purse (deployment W F c s) ≡ Gave d t q → d.principal ≡ c.principal
unfolding limited
principal_kept costs purse W F c s d t q e = keeps_deployment W F c s d (given_on _ _ _ t d q e)
