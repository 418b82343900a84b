-- What an entry without a stated limit costs in runtime, under the unit table.
use Rattle.std.proofs.Common.{◌≡◌, ℕ, ◌+◌, ◌-◌, ◌^◌, ◌≤◌, Bool, true, false, List, [], ◌∷◌, Option, Some, None, refl, sym, ap, ◌∙◌, subst, append-nil, arith}
use Rattle.cl_types.specs.declared.sized.Access.{Access}
use Rattle.cl_types.specs.declared.sized.Access.TheVariants.{Public, ReadOnly, Private}
use Rattle.cl_c32.specs.declared.principal.Principal.{Principal}
use Rattle.cl_shapes.specs.declared.cost.Cost5.{Cost5}
use Rattle.cl_shapes.specs.declared.cost.Dimension.{Dimension}
use Rattle.cl_shapes.specs.declared.name.CostName.{CostName}
use Rattle.cl_shapes.specs.declared.name.CostName.TheVariants.{Literal, Lookup, Context, Control, Call as CallCost, Bind, Arith, Compare, Hash, Wrap, Make, Take, Scan, Iterate, ReadVar, WriteVar, ReadMap, WriteMap, ReadToken, WriteToken, Event, ContractCall, Deploy as DeployCost, Define}
use Rattle.cl_shapes.specs.Costs.{zero_cost, IsAtMost}
use Rattle.cl_shapes.specs.Limits.{Purse}
use Rattle.cl_costs.specs.Tables.{function_of, unit_table}
use Rattle.cl_costs.specs.Schedules.{always, table_at}
use Rattle.cl_values.specs.Tree.{Tree, ResponseV}
use Rattle.cl_forms.specs.Texts.{Text, text_of}
use Rattle.cl_events.specs.State.{State}
use Rattle.cl_meaning.specs.Answers.{Answer, Outcome as Ending, Given, Thrown, Aborted, Wrong, Deeper, Note, Charged}
use Rattle.cl_meaning.specs.Deployed.{Contract, Function, contract_at, function_in}
use Rattle.cl_meaning.specs.Limits.{Costs, cost_of, Paid, Within, Past, pay, Limited, Gave, Threw, AbortedBy, Passed, Lost, limit_on, limited}
use Rattle.cl_meaning.specs.Prefixes.{spent_after}
use Rattle.cl_meaning.proofs.Prefixes.{IsPaid, paid_is}
use Rattle.cl_meaning.proofs.Stops.{spent_after-append}
use Rattle.cl_rules.specs.Context.{Known}
use Rattle.cl_file.specs.declared.entry.Common.{Common}
use Rattle.cl_file.specs.declared.entry.Entry.{Entry}
use Rattle.cl_file.specs.declared.entry.Entry.TheVariants.{Deploy, Call, Block}
use Rattle.cl_post.specs.Post.{holds as first_failed}
use Rattle.cl_tx.specs.declared.outcome.Outcome.{Outcome}
use Rattle.cl_tx.specs.declared.outcome.Outcome.TheVariants.{Done, Good, Plain}
use Rattle.cl_tx.specs.Nodes.{NodeSeen, Stepped, Told, nothing_told, contract_of, purse_of, with_contract, settled_by, answered, call_ended, deployment_ended}
use Rattle.cl_tx.specs.Rebounds.{first_over}
use Rattle.cl_tx.specs.Step.{first_misfit, run_call, if_bounded, if_fitting, if_as_many, if_open, if_function, if_deployed, call_step, run_deployment, DeploySteps, name_taken, source_refused, evaluated, Steps}
use Rattle.cl_workload.specs.Summary.{IsCheap}

-- ---- charges

abbrev unit_costs : Costs
unit_costs = function_of unit_table

one_unit : (name : CostName) (n : ℕ) → (cost_of unit_costs name n).runtime ≡ 1
unfolding function_of unit_table
one_unit Literal n = refl
one_unit Lookup n = refl
one_unit Context n = refl
one_unit Control n = refl
one_unit CallCost n = refl
one_unit Bind n = refl
one_unit Arith n = refl
one_unit Compare n = refl
one_unit Hash n = refl
one_unit Wrap n = refl
one_unit Make n = refl
one_unit Take n = refl
one_unit Scan n = refl
one_unit Iterate n = refl
one_unit ReadVar n = refl
one_unit WriteVar n = refl
one_unit ReadMap n = refl
one_unit WriteMap n = refl
one_unit ReadToken n = refl
one_unit WriteToken n = refl
one_unit Event n = refl
one_unit ContractCall n = refl
one_unit DeployCost n = refl
one_unit Define n = refl

-- a purse of which nothing is spent, and whose limit has 64 bits
record IsFresh (p : Purse) : Type 0 where
  pub unspent : p.spent ≡ zero_cost
  pub limit : p.limit.runtime ≤ 2 ^ 64 - 1

within_limit : (p : Purse) → IsFresh p → IsAtMost p.spent p.limit
within_limit p fresh = subst (λ c. IsAtMost c p.limit) (sym fresh.unspent)
    (record { runtime = omega arith; read_count = omega arith; read_length = omega arith; write_count = omega arith; write_length = omega arith })

-- the runtime that was spent, and the one that was tried
abbrev IsSmallPaid : Paid → Type 0
IsSmallPaid (Within q) = q.spent.runtime ≤ 2 ^ 64
IsSmallPaid (Past over q) = over.attempted.runtime ≤ 2 ^ 64

small_paid : (p : Purse) (log : List Note) (r : Paid) → IsFresh p → IsPaid unit_costs p log r → IsSmallPaid r
small_paid p log (Within q) fresh paid =
    let most = paid.1.each log [] (sym (append-nil log)) in
    let spent : q.spent.runtime ≡ (spent_after unit_costs p log).runtime = ap (λ (x : Purse). x.spent.runtime) paid.0 in
    omega (arith, most.runtime, spent, fresh.limit)
small_paid p log (Past over q) fresh first =
    let most = first.within.each first.front [] (sym (append-nil first.front)) in
    let sum : over.attempted.runtime ≡ (spent_after unit_costs p first.front).runtime + ((cost_of unit_costs first.name first.number).runtime + 0) =
    ap (λ (c : Cost5). c.runtime) (first.sum ∙ spent_after-append unit_costs p first.front (Charged first.name first.number ∷ [])) in
    let unit = one_unit first.name first.number in
    omega (arith, most.runtime, sum, unit, fresh.limit)

abbrev IsSmall : {A : Type 0} → Limited A → Type 0
IsSmall (Gave a s q) = q.spent.runtime ≤ 2 ^ 64
IsSmall (Threw v s q) = q.spent.runtime ≤ 2 ^ 64
IsSmall (AbortedBy why q) = q.spent.runtime ≤ 2 ^ 64
IsSmall (Passed over q) = over.attempted.runtime ≤ 2 ^ 64
IsSmall (Lost q) = Unit {0}

small_on : {A : Type 0} (r : Paid) (o : Ending A) (s : State) → IsSmallPaid r → IsSmall (limit_on r o s)
small_on (Past over q) o s h = h
small_on (Within q) (Given a) s h = h
small_on (Within q) (Thrown v) s h = h
small_on (Within q) (Aborted why) s h = h
small_on (Within q) Wrong s h = tt
small_on (Within q) Deeper s h = tt

small : {A : Type 0} (p : Purse) (a : Answer A) → IsFresh p → IsSmall (limited unit_costs p a)
unfolding limited
small p a fresh = small_on (pay unit_costs (Within p) a.log) a.outcome a.state (small_paid p a.log _ fresh (paid_is unit_costs p a.log (within_limit p fresh)))

-- ---- results

abbrev CheapIf : Option Stepped → Type 0
CheapIf o = (s : Stepped) → o ≡ Some s → IsCheap s.result

same_step : (s t : Stepped) → Some s ≡ Some t → s ≡ t
same_step s t e = cc

no_step : (t : Stepped) → None ≡ Some t → ⊥
no_step t e = cc

cheap : (s : Stepped) → IsCheap s.result → CheapIf (Some s)
cheap s h t e = subst (λ (z : Stepped). IsCheap z.result) (same_step s t e) h

nothing : CheapIf None
nothing t e = absurd (no_step t e)

free : 0 ≤ 2 ^ 64
free = omega arith

settled_cheap : (failing : Option ℕ) (before after : NodeSeen) (told : Told) (outcome : Outcome) (cost : Cost5) (s : State) → cost.runtime ≤ 2 ^ 64
    → IsCheap (settled_by failing before after told outcome cost s).result
settled_cheap None before after told outcome cost s h = h
settled_cheap (Some index) before after told outcome cost s h = h

module _ (common : Common) (node : NodeSeen) where
  answer_cheap : (access : Access) (v : Tree) (cost : Cost5) (s : State) → cost.runtime ≤ 2 ^ 64 → CheapIf (answered common access v node cost s)
  answer_cheap Public (ResponseV true v) cost s h = cheap _ (settled_cheap (first_failed s.moves common.mode common.conditions) node node nothing_told (Good v) cost s h)
  answer_cheap Public (ResponseV false v) cost s h = cheap _ h
  answer_cheap Public v cost s h = nothing
  answer_cheap ReadOnly v cost s h = cheap _ (settled_cheap (first_failed s.moves common.mode common.conditions) node node nothing_told (Plain v) cost s h)
  answer_cheap Private v cost s h = cheap _ (settled_cheap (first_failed s.moves common.mode common.conditions) node node nothing_told (Plain v) cost s h)

  call_cheap : (access : Access) (l : Limited Tree) → IsSmall l → CheapIf (call_ended common access node l)
  call_cheap access (Gave v s q) h = answer_cheap access v q.spent s h
  call_cheap access (Threw v s q) h = nothing
  call_cheap access (AbortedBy why q) h = cheap _ h
  call_cheap access (Passed over q) h = cheap _ h
  call_cheap access (Lost q) h = nothing

  deployment_cheap : (told : Told) (known : Known) (l : Limited Contract) → IsSmall l → CheapIf (deployment_ended common node told known l)
  deployment_cheap told known (Gave c s q) h = cheap _ (settled_cheap (first_failed s.moves common.mode common.conditions) node (with_contract node c known) told Done q.spent s h)
  deployment_cheap told known (Threw v s q) h = cheap _ h
  deployment_cheap told known (AbortedBy why q) h = cheap _ h
  deployment_cheap told known (Passed over q) h = cheap _ h
  deployment_cheap told known (Lost q) h = nothing

  module _ (fresh : IsFresh (purse_of common)) where
    module _ (contract : Principal) (args : List Tree) where
      run_cheap : (f : Function) → CheapIf (run_call unit_costs node common contract f args)
      unfolding run_call
      run_cheap f = call_cheap f.access _ (small (purse_of common) _ fresh)

      bounded_cheap : (f : Function) (over : Option Dimension) → CheapIf (if_bounded unit_costs node common contract f args over)
      bounded_cheap f (Some dimension) = cheap _ free
      bounded_cheap f None = run_cheap f

      fitting_cheap : (f : Function) (misfit : Option ℕ) → CheapIf (if_fitting unit_costs node common contract f args misfit)
      fitting_cheap f (Some index) = cheap _ free
      fitting_cheap f None = bounded_cheap f (first_over unit_costs node.known contract f.name)

      as_many_cheap : (f : Function) (as_many : Bool) → CheapIf (if_as_many unit_costs node common contract f args as_many)
      as_many_cheap f false = cheap _ free
      as_many_cheap f true = fitting_cheap f (first_misfit 0 f.params args)

      open_cheap : (f : Function) (access : Access) → CheapIf (if_open unit_costs node common contract f args access)
      open_cheap f Private = cheap _ free
      open_cheap f Public = as_many_cheap f _
      open_cheap f ReadOnly = as_many_cheap f _

      function_cheap : (f : Option Function) → CheapIf (if_function unit_costs node common contract args f)
      function_cheap None = cheap _ free
      function_cheap (Some f) = open_cheap f f.access

      deployed_cheap : (function : List ℕ) (c : Option Contract) → CheapIf (if_deployed unit_costs node common contract function args c)
      deployed_cheap function None = cheap _ free
      deployed_cheap function (Some c) = function_cheap (function_in function c.forms)

      called_cheap : (function : List ℕ) → CheapIf (call_step unit_costs node common contract function args)
      unfolding call_step
      called_cheap function = deployed_cheap function (contract_at contract node.contracts)

    deploy_cheap : (principal : Principal) (source : Text) (s : Stepped) → DeploySteps unit_costs node common principal source s → IsCheap s.result
    unfolding run_deployment
    deploy_cheap principal source s (name_taken known e p) = subst (λ (z : Stepped). IsCheap z.result) (sym p) free
    deploy_cheap principal source s (source_refused rule span names e b p) = subst (λ (z : Stepped). IsCheap z.result) (sym p) free
    deploy_cheap principal source s (evaluated e a p) = deployment_cheap _ _ _ (small (purse_of common) _ fresh) s p

-- an entry whose limit of runtime has 64 bits, as all of a file have
abbrev pub IsLimited : Entry → Type 0
IsLimited (Deploy common name source version) = (purse_of common).limit.runtime ≤ 2 ^ 64 - 1
IsLimited (Call common contract function args) = (purse_of common).limit.runtime ≤ 2 ^ 64 - 1
IsLimited (Block height) = Unit {0}

pub step_cheap : (node : NodeSeen) (entry : Entry) (s : Stepped) → IsLimited entry → Steps (always unit_table) node entry s → IsCheap s.result
unfolding table_at
step_cheap node (Deploy common name source version) s h x = deploy_cheap common node (record { unspent = refl; limit = h }) (contract_of common.sender name) (text_of source version) s x
step_cheap node (Call common contract function args) s h x = called_cheap common node (record { unspent = refl; limit = h }) contract args function s x
step_cheap node (Block height) s h x = subst (λ (z : Stepped). IsCheap z.result) (sym x) free
