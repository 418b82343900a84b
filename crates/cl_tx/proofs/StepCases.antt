-- What holds of each way in which an entry can end holds of what it makes of a node.
use Rattle.std.proofs.Common.{◌≡◌, ℕ, Bool, true, false, List, length, Option, Some, None, refl, sym, ◌∙◌, subst}
use Rattle.cl_types.specs.declared.sized.Access.{Access}
use Rattle.cl_types.specs.declared.sized.Access.TheVariants.{Public, ReadOnly, Private}
use Rattle.cl_c32.specs.declared.principal.Principal.{Principal}
use Rattle.cl_shapes.specs.declared.cost.Cost5.{Cost5}
use Rattle.cl_shapes.specs.declared.cost.Dimension.{Dimension}
use Rattle.cl_shapes.specs.Limits.{Purse}
use Rattle.cl_values.specs.Tree.{Tree, ResponseV}
use Rattle.cl_events.specs.State.{State}
use Rattle.cl_forms.specs.Texts.{Text, text_of}
use Rattle.cl_costs.specs.Schedules.{ScheduleSeen}
use Rattle.cl_meaning.specs.Deployed.{Contract, Function, contract_at, function_in}
use Rattle.cl_meaning.specs.Limits.{Costs, Limited, Gave, Threw, AbortedBy, Passed, Lost}
use Rattle.cl_rules.specs.Context.{Known, known_at}
use Rattle.cl_rules.specs.Acceptance.{Accepted, known_of}
use Rattle.cl_file.specs.declared.entry.Common.{Common}
use Rattle.cl_file.specs.declared.entry.Entry.{Entry}
use Rattle.cl_file.specs.declared.entry.Entry.TheVariants.{Deploy, Call, Block}
use Rattle.cl_tx.specs.declared.outcome.Outcome.{Outcome}
use Rattle.cl_tx.specs.declared.outcome.Outcome.TheVariants.{Done, Good, Plain}
use Rattle.cl_post.specs.Post.{holds as first_failed}
use Rattle.cl_tx.specs.Nodes.{NodeSeen, Stepped, Told, nothing_told, contract_of, stays, moves_on, with_contract, moved, settled_by, settled, answered, call_ended, deployment_ended}
use Rattle.cl_tx.specs.Step.{first_misfit, run_call, if_bounded, if_fitting, if_as_many, if_open, if_function, if_deployed, call_step, run_deployment, DeploySteps, name_taken, source_refused, evaluated, Steps, costs_for}
use Rattle.cl_tx.specs.Rebounds.{first_over, rebounds_at}
use Rattle.cl_tx.specs.Laws.{IsKept}
use Rattle.cl_tx.proofs.Principals.{principal_kept}

pub some_same : {A : Type 0} (a b : A) → Some a ≡ Some b → a ≡ b
some_same a b e = cc

pub none_some : {A : Type 0} (a : A) (o : Option A) → o ≡ None → o ≡ Some a → ⊥
none_some a o e h = let same : None ≡ Some a = sym e ∙ h in cc

module _ (P : Stepped → Type 0) where
  -- what comes of an entry, where it comes to something
  abbrev HoldsIf : Option Stepped → Type 0
  HoldsIf o = (s : Stepped) → o ≡ Some s → P s

  holds : (s : Stepped) → P s → HoldsIf (Some s)
  holds s h t e = subst P (some_same s t e) h

  nothing : HoldsIf None
  nothing t e = absurd (none_some t None refl e)

  -- what a run without an err and an abort is settled to
  settled_holds : (failing : Option ℕ) (before after : NodeSeen) (told : Told) (outcome : Outcome) (cost : Cost5) (s : State)
      → ((stopped : Outcome) → P (stays before told stopped (Some cost))) → P (moves_on after told outcome cost s)
      → P (settled_by failing before after told outcome cost s)
  settled_holds None before after told outcome cost s stay go = go
  settled_holds (Some index) before after told outcome cost s stay go = stay _

  module _ (node : NodeSeen) (stay : (outcome : Outcome) (cost : Option Cost5) → P (stays node nothing_told outcome cost))
      (go : (outcome : Outcome) → IsKept outcome → (cost : Cost5) (s : State) → P (moves_on node nothing_told outcome cost s)) where
    done_holds : (common : Common) (outcome : Outcome) → IsKept outcome → (cost : Cost5) (s : State) → HoldsIf (Some (settled common node node nothing_told outcome cost s))
    done_holds common outcome kept cost s = holds _ (settled_holds (first_failed s.moves common.mode common.conditions) node node nothing_told outcome cost s (λ stopped. stay _ _) (go outcome kept cost s))

    answer_holds : (common : Common) (access : Access) (v : Tree) (cost : Cost5) (s : State) → HoldsIf (answered common access v node cost s)
    answer_holds common Public (ResponseV true v) cost s = done_holds common (Good v) tt cost s
    answer_holds common Public (ResponseV false v) cost s = holds _ (stay _ _)
    answer_holds common Public v cost s = nothing
    answer_holds common ReadOnly v cost s = done_holds common (Plain v) tt cost s
    answer_holds common Private v cost s = done_holds common (Plain v) tt cost s

    ended_holds : (common : Common) (access : Access) (l : Limited Tree) → HoldsIf (call_ended common access node l)
    ended_holds common access (Gave v s purse) = answer_holds common access v purse.spent s
    ended_holds common access (Threw v s purse) = nothing
    ended_holds common access (AbortedBy why purse) = holds _ (stay _ _)
    ended_holds common access (Passed over purse) = holds _ (stay _ _)
    ended_holds common access (Lost purse) = nothing

    module _ (costs : Costs) (common : Common) (contract : Principal) (args : List Tree) where
      run_holds : (f : Function) → HoldsIf (run_call costs node common contract f args)
      unfolding run_call
      run_holds f = ended_holds common f.access _

      bounded_holds : (f : Function) (over : Option Dimension) → HoldsIf (if_bounded costs node common contract f args over)
      bounded_holds f (Some dimension) = holds _ (stay _ _)
      bounded_holds f None = run_holds f

      fitting_holds : (f : Function) (misfit : Option ℕ) → HoldsIf (if_fitting costs node common contract f args misfit)
      fitting_holds f (Some index) = holds _ (stay _ _)
      fitting_holds f None = bounded_holds f (first_over costs node.known contract f.name)

      as_many_holds : (f : Function) (as_many : Bool) → HoldsIf (if_as_many costs node common contract f args as_many)
      as_many_holds f false = holds _ (stay _ _)
      as_many_holds f true = fitting_holds f (first_misfit 0 f.params args)

      open_holds : (f : Function) (access : Access) → HoldsIf (if_open costs node common contract f args access)
      open_holds f Private = holds _ (stay _ _)
      open_holds f Public = as_many_holds f _
      open_holds f ReadOnly = as_many_holds f _

      function_holds : (f : Option Function) → HoldsIf (if_function costs node common contract args f)
      function_holds None = holds _ (stay _ _)
      function_holds (Some f) = open_holds f f.access

      deployed_holds : (function : List ℕ) (c : Option Contract) → HoldsIf (if_deployed costs node common contract function args c)
      deployed_holds function None = holds _ (stay _ _)
      deployed_holds function (Some c) = function_holds (function_in function c.forms)

      pub call_holds : (function : List ℕ) → HoldsIf (call_step costs node common contract function args)
      unfolding call_step
      call_holds function = deployed_holds function (contract_at contract node.contracts)

  module _ (node : NodeSeen) (stay : (told : Told) (outcome : Outcome) (cost : Option Cost5) → P (stays node told outcome cost)) where
    deployment_holds : (common : Common) (told : Told) (known : Known) (l : Limited Contract) → ((c : Contract) (s : State) (purse : Purse) → l ≡ Gave c s purse → P (moves_on (with_contract node c known) told Done purse.spent s)) → HoldsIf (deployment_ended common node told known l)
    deployment_holds common told known (Gave c s purse) done = holds _ (settled_holds (first_failed s.moves common.mode common.conditions) node (with_contract node c known) told Done purse.spent s (λ stopped. stay _ _ _) (done c s purse refl))
    deployment_holds common told known (Threw v s purse) done = holds _ (stay _ _ _)
    deployment_holds common told known (AbortedBy why purse) done = holds _ (stay _ _ _)
    deployment_holds common told known (Passed over purse) done = holds _ (stay _ _ _)
    deployment_holds common told known (Lost purse) done = nothing

    module _ (costs : Costs) (done : (principal : Principal) (source : Text) (accepted : Accepted node.known principal costs source) → known_at principal node.known ≡ None → (told : Told) (c : Contract) → c.principal ≡ principal → (cost : Cost5) (s : State) → P (moves_on (with_contract node c (known_of principal (length source.bytes) accepted.defined)) told Done cost s)) where
      pub deploy_holds : (common : Common) (principal : Principal) (source : Text) (s : Stepped) → DeploySteps costs node common principal source s → P s
      unfolding run_deployment
      deploy_holds common principal source s (name_taken known e p) = subst P (sym p) (stay _ _ _)
      deploy_holds common principal source s (source_refused rule span names e b p) = subst P (sym p) (stay _ _ _)
      deploy_holds common principal source s (evaluated e a p) =
          deployment_holds common _ _ _ (λ c t purse is. done principal source a e _ c (principal_kept _ _ _ _ _ _ c t purse is) purse.spent t) s p

    module _ (schedule : ScheduleSeen) (done : (principal : Principal) (source : Text) (accepted : Accepted node.known principal (costs_for schedule node) source) → known_at principal node.known ≡ None → (told : Told) (c : Contract) → c.principal ≡ principal → (cost : Cost5) (s : State) → P (moves_on (with_contract node c (known_of principal (length source.bytes) accepted.defined)) told Done cost s)) where
      pub step_holds : ((outcome : Outcome) → IsKept outcome → (cost : Cost5) (s : State) → P (moves_on node nothing_told outcome cost s)) → ((height : ℕ) → P (moved node height (rebounds_at schedule node height))) → (entry : Entry) (s : Stepped) → Steps schedule node entry s → P s
      step_holds go block (Deploy common name source version) s x = deploy_holds (costs_for schedule node) done common (contract_of common.sender name) (text_of source version) s x
      step_holds go block (Call common contract function args) s x = call_holds node (λ outcome cost. stay nothing_told outcome cost) go (costs_for schedule node) common contract args function s x
      step_holds go block (Block height) s x = subst P (sym x) (block height)
