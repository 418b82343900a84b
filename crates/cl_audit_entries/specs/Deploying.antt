-- What comes of a deployment.
use Rattle.std.specs.Prelude.{◌≡◌, ℕ, List, [], ◌∷◌, ◌++◌, Option, Some, None, Result, Ok, Err}
use Rattle.cl_shapes.specs.declared.cost.Cost5.{Cost5}
use Rattle.cl_shapes.specs.declared.function.CostFn.{CostFn}
use Rattle.cl_shapes.specs.Limits.{Purse}
use Rattle.cl_costs.specs.Tables.{function_of}
use Rattle.cl_forms.specs.Order.{IsGoodOrder, ordered}
use Rattle.cl_forms.specs.Texts.{Text}
use Rattle.cl_events.specs.State.{State, at_rest}
use Rattle.cl_events.specs.declared.event.Event.{Event}
use Rattle.cl_state.specs.Stack.{Stack}
use Rattle.cl_meaning.specs.Answers.{Answer}
use Rattle.cl_meaning.specs.Deployed.{Contract}
use Rattle.cl_meaning.specs.Deploying.{deployment}
use Rattle.cl_meaning.specs.Limits.{Limited, Gave, limited}
use Rattle.cl_meaning.specs.Scope.{Frame}
use Rattle.cl_meaning.specs.Trace.{trace_of}
use Rattle.cl_newness.specs.Newness.{DefineOnce}
use Rattle.cl_rules.specs.Acceptance.{Ordered}
use Rattle.cl_rules.specs.Context.{Known}
use Rattle.cl_contracts.specs.declared.checked.Checked.{Checked}
use Rattle.cl_contracts.specs.Contents.{with_constants}
use Rattle.cl_contracts.specs.Seen.{contract_under, forms_of}
use Rattle.cl_contracts.specs.Standings.{FitsAfter}
use Rattle.cl_bound.specs.Known.{AreBoundsOf}
use Rattle.cl_post.specs.Post.{holds}
use Rattle.cl_file.specs.declared.entry.Common.{Common}
use Rattle.cl_tx.specs.declared.outcome.Stop.{Stop as Aborts}
use Rattle.cl_tx.specs.declared.outcome.Stop.TheVariants as aborts
use Rattle.cl_tx.specs.declared.outcome.Outcome.TheVariants as outcome
use Rattle.cl_tx.specs.declared.outcome.TxResult.{TxResult}
use Rattle.cl_tx.specs.Nodes.{NodeSeen, Stepped, Told, aborted, deployment_ended, purse_of, result_of, stop_of}
use Rattle.cl_nodes.specs.declared.asked.Deployment.{Deployment}
use Rattle.cl_nodes.specs.declared.asked.Moment.{Moment}
use Rattle.cl_nodes.specs.declared.contracts.Contracts.{Contracts}
use Rattle.cl_nodes.specs.declared.admitting.Accepted.{Accepted}
use Rattle.cl_nodes.specs.Accepting.{told_seen}
use Rattle.cl_nodes.specs.Asked.{costs_at, deployment_entry}
use Rattle.cl_nodes.specs.Bounded.{costs_of, entries_of}
use Rattle.cl_nodes.specs.Sound.{Contracts as CheckedContracts}
use Rattle.cl_nodes.specs.Steps.{MakesSound}
use Rattle.cl_walks.specs.declared.stop.Stop.{Stop}
use Rattle.cl_walks.specs.declared.stop.Stop.TheVariants.{Thrown, Aborted, CostLimit, Stuck}
use Rattle.cl_walks.specs.Ends.{cause}
use Rattle.cl_audit_steps.specs.declared.scope.Contract.{Contract as ContractOfCode}
use Rattle.cl_audit_steps.specs.declared.scope.Scope.{Scope}
use Rattle.cl_audit_steps.specs.Seen.{contract_seen, contracts_seen}
use Rattle.cl_audit_walk.specs.declared.run.Run.{Run}
use Rattle.cl_audit.specs.declared.agreeing.Agreement.{Agreement}
use Rattle.cl_audit.specs.Agrees.{IsAgreement}
use Rattle.cl_audit_deploy.specs.Deploying.{deployment_of, without_values}
use Rattle.cl_audit_entries.specs.declared.deployment.Ran.{Ran}
use Rattle.cl_audit_entries.specs.declared.deployment.Ran.TheVariants.{Done, Stopped}
use Rattle.cl_audit_entries.specs.declared.deploy.Evaluated.{Evaluated}
use Rattle.cl_audit_entries.specs.declared.node.Audited.{Audited}
use Rattle.cl_audit_entries.specs.Agreeing.{AgreesUnder}
use Rattle.cl_audit_entries.specs.Seen.{seen_of}

-- ---- what is deployed

-- a text reads as the forms of a contract that stands for it
pub record IsReadAs (text : Text) (c : Checked) : Type 0 where
  pub ordered : Ordered text (forms_of c) c.order.items

-- a contract whose constants have no values yet, with the places of its forms in their order
pub record IsOpened (c : ContractOfCode) (order : List ℕ) : Type 0 where
  pub ordered : ordered c.forms ≡ Ok order
  pub good : IsGoodOrder c.forms order
  pub once : DefineOnce c.forms
  pub constants : c.constants ≡ []

-- ---- how it runs

-- something comes of what a limit leaves of a deployment, for this entry
pub record DeploymentComes (common : Common) (l : Limited Contract) : Type 0 where
  pub node : NodeSeen
  pub told : Told
  pub known : Known
  pub stepped : Stepped
  pub ended : deployment_ended common node told known l ≡ Some stepped

-- no deployment of an accepted text is stuck
abbrev pub MayStop : Result (Unit {0}) Stop → Type 0
MayStop (Err Stuck) = ⊥
MayStop end = Unit {0}

-- a deployment that ended so on a layer, with this condition failing if any, where so much is spent: it is done, and the layer's
-- state is the one after; or it stops, and the one below is
abbrev pub EndsAs : Result (Unit {0}) Stop → Option ℕ → Cost5 → Ran → Stack → State → Type 0
EndsAs (Ok u) None spent (Done cost events) layer after = (cost ≡ spent) × (events.items ≡ layer.top.events) × (after ≡ at_rest layer.top)
EndsAs (Ok u) (Some index) spent (Stopped why cost) layer after = (why ≡ aborts.PostCondition index) × (cost ≡ spent) × (after ∷ [] ≡ layer.below)
EndsAs (Err (Thrown v)) failing spent (Stopped why cost) layer after = (why ≡ aborts.EarlyTop) × (cost ≡ spent) × (after ∷ [] ≡ layer.below)
EndsAs (Err (Aborted y)) failing spent (Stopped why cost) layer after = (why ≡ stop_of (cause y)) × (cost ≡ spent) × (after ∷ [] ≡ layer.below)
EndsAs (Err (CostLimit over)) failing spent (Stopped why cost) layer after = (why ≡ aborts.CostLimit over) × (cost ≡ over.attempted) × (after ∷ [] ≡ layer.below)
EndsAs end failing spent ran layer after = ⊥

-- the contract is given, at this cost and with these events, and no condition of the entry fails; the state then, at rest, is the
-- one after
pub record IsDone (common : Common) (l : Limited Contract) (c : Contract) (cost : Cost5) (events : List Event) (after : State) : Type 0 where
  pub state : State
  pub purse : Purse
  pub gave : l ≡ Gave c state purse
  pub spent : purse.spent ≡ cost
  pub passes : holds state.moves common.mode common.conditions ≡ None
  pub told : events ≡ state.events
  pub rests : after ≡ at_rest state

-- it stops so, at this cost, whatever is told; the state is as before
pub record IsStopped (common : Common) (l : Limited Contract) (why : Aborts) (cost : Cost5) (before after : State) : Type 0 where
  pub ended : (node : NodeSeen) (told : Told) (known : Known) → deployment_ended common node told known l ≡ Some (aborted node told why cost)
  pub undone : after ≡ before

abbrev pub RunsSo : Common → Limited Contract → Contract → Ran → State → State → Type 0
RunsSo common l c (Done cost events) before after = IsDone common l c cost events.items after
RunsSo common l c (Stopped why cost) before after = IsStopped common l why cost before after

-- what the entry's limit leaves of the deployment of a contract
abbrev pub deployment_left : Scope → Common → ContractOfCode → Run → Limited Contract
deployment_left S common c run = limited (function_of S.costs.now) (purse_of common) (deployment_of S c run.world.stack.top)

-- what it is, by how it ran
abbrev pub Runs : Scope → Common → ContractOfCode → Ran → Run → ContractOfCode → Run → Type 0
Runs S common c ran old c_after new = RunsSo common (deployment_left S common c old) (contract_seen c_after) ran old.world.stack.top new.world.stack.top

-- whether the claims of the run are its trace
abbrev pub AgreesWithDeployment : Scope → Common → ContractOfCode → Run → Agreement → Type 0
AgreesWithDeployment S common c run agreement =
    IsAgreement (trace_of (function_of S.costs.now) (purse_of common) (deployment_of S c run.world.stack.top)) run.cursor.claims.now agreement

-- ---- an accepted contract

-- the contract of a text that is accepted, whose constants have no values yet
abbrev pub opened_of : Checked → Contract
opened_of c = record { principal = c.principal; version = c.version; forms = forms_of c; source_length = c.source_length; constants = [] }

-- what its deployment means, in the node of these texts and in a frame
abbrev pub evaluation_of : List ContractOfCode → Frame → Accepted → Run → Answer Contract
evaluation_of texts F a run = deployment (contracts_seen texts) F (opened_of a.checked) run.world.stack.top

-- what the entry's limit leaves of it
abbrev pub evaluation_left : List CostFn → List ContractOfCode → Frame → Deployment → Accepted → Run → Limited Contract
evaluation_left table texts F d a run = limited (function_of table) (purse_of d.common.now) (evaluation_of texts F a run)

-- how it ran, with the contract that it gave, and whether the claims of the run are its trace
pub record EvaluatesAs (table : List CostFn) (texts : List ContractOfCode) (F : Frame) (d : Deployment) (a : Accepted) (run : Run) (e : Evaluated) (run_after : Run) : Type 0 where
  pub runs : RunsSo d.common.now (evaluation_left table texts F d a run) (contract_seen e.contract) e.ended.ran run.world.stack.top run_after.world.stack.top
  pub bare : without_values (contract_seen e.contract) ≡ opened_of a.checked
  pub agrees : IsAgreement (trace_of (function_of table) (purse_of d.common.now) (evaluation_of texts F a run)) run.cursor.claims.now e.ended.agreement

-- it can be added
pub record IsAddable (cs : Contracts) (a : Accepted) : Type 0 where
  pub new : contract_under a.checked.principal (entries_of cs) ≡ None
  pub fits : FitsAfter cs.deployed a.checked
  pub bounds : AreBoundsOf (costs_of cs) (entries_of cs) a.checked a.bounds

-- the contracts by their forms after a deployment that ran so
abbrev pub texts_after : List ContractOfCode → ContractOfCode → Ran → List ContractOfCode
texts_after texts c (Done cost events) = texts ++ c ∷ []
texts_after texts c (Stopped why cost) = texts

-- and the checked ones, of which it has no values of constants
abbrev pub IsCheckedAfter : CheckedContracts → Accepted → Ran → CheckedContracts → Type 0
IsCheckedAfter es a (Done cost events) after = after ≡ es ++ (a.checked.principal, with_constants a.checked []) ∷ []
IsCheckedAfter es a (Stopped why cost) after = after ≡ es

-- its result
abbrev pub result_after : Accepted → Ran → TxResult
result_after a (Done cost events) = result_of (told_seen a.told) outcome.Done (Some cost) events.items
result_after a (Stopped why cost) = result_of (told_seen a.told) (outcome.Aborted why) (Some cost) []

-- ---- what an entry makes of it

abbrev pub Deploys : Deployment → Moment → Run → List ContractOfCode → Contracts → TxResult → Run → List ContractOfCode → Contracts → Type 0
Deploys d m run texts contracts result run_after texts_after contracts_after =
    MakesSound (costs_at m) (entries_of contracts) (seen_of run texts m.height) (deployment_entry d) result (entries_of contracts_after) (seen_of run_after texts_after m.height)

-- whether the claims of the run are the entry's trace
abbrev pub AgreesWithEntry : Deployment → Moment → Run → List ContractOfCode → Contracts → Audited → Type 0
AgreesWithEntry d m run texts contracts audited =
    AgreesUnder (costs_at m) (entries_of contracts) (seen_of run texts m.height) (deployment_entry d) audited.result.outcome run.cursor.claims.now audited.agreement

-- nothing changed but for the table under which bounds are kept
pub record IsUnchanged (run : Run) (texts : List ContractOfCode) (contracts : Contracts) (run_after : Run) (texts_after : List ContractOfCode) (contracts_after : Contracts) : Type 0 where
  pub state : run_after.world.stack.top ≡ run.world.stack.top
  pub texts_are : texts_after ≡ texts
  pub contracts_are : entries_of contracts_after ≡ entries_of contracts
