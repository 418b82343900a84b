-- What comes of the deployment of an accepted source: evaluated and added.
use Rattle.std.specs.Prelude.{◌≡◌, ℕ, List, [], ◌∷◌, ◌++◌, Option, Some, None, Result, Ok, Err}
use Rattle.indexmap.specs.IndexMap.{IndexMap}
use Rattle.cl_keyed.specs.declared.hash_key.HashKey.{HashKey}
use Rattle.cl_types.specs.declared.fault.Fault.{Fault}
use Rattle.cl_types.specs.declared.fault.Fault.TheVariants.{Refused}
use Rattle.cl_shapes.specs.declared.cost.Cost5.{Cost5}
use Rattle.cl_shapes.specs.Limits.{Purse}
use Rattle.cl_values.specs.Tree.{Tree as Val}
use Rattle.cl_events.specs.State.{State, at_rest}
use Rattle.cl_events.specs.declared.event.Event.{Event}
use Rattle.cl_state.specs.Stack.{Stack, Seen as World}
use Rattle.cl_meaning.specs.Answers.{Answer}
use Rattle.cl_meaning.specs.Deploying.{deployment}
use Rattle.cl_meaning.specs.Limits.{Limited, Gave}
use Rattle.cl_meaning.specs.Deployed.{Contract}
use Rattle.cl_rules.specs.Context.{Known}
use Rattle.cl_contracts.specs.declared.checked.Checked.{Checked}
use Rattle.cl_contracts.specs.declared.contract.Contract.{Contract as ContractOfCode}
use Rattle.cl_contracts.specs.Seen.{AreConstants, contract_under, deployed_seen}
use Rattle.cl_contracts.specs.Standings.{FitsAfter}
use Rattle.cl_frames.specs.declared.abort.Abort.{Abort}
use Rattle.cl_frames.specs.Deploys.{contract_with}
use Rattle.cl_frames.specs.Homes.{frame_seen}
use Rattle.cl_post.specs.Post.{holds}
use Rattle.cl_file.specs.declared.entry.Common.{Common}
use Rattle.cl_tx.specs.declared.outcome.Stop.{Stop}
use Rattle.cl_tx.specs.declared.outcome.Stop.TheVariants.{PostCondition}
use Rattle.cl_tx.specs.declared.outcome.Outcome.TheVariants as outcome
use Rattle.cl_tx.specs.declared.outcome.TxResult.{TxResult}
use Rattle.cl_tx.specs.Nodes.{NodeSeen, Told, deployment_ended, aborted, result_of}
use Rattle.cl_bound.specs.Known.{AreBoundsOf}
use Rattle.cl_nodes.specs.Sound.{Contracts}
use Rattle.cl_nodes.specs.declared.asked.Deployment.{Deployment}
use Rattle.cl_nodes.specs.declared.asked.Moment.{Moment}
use Rattle.cl_nodes.specs.declared.admitting.Accepted.{Accepted as AcceptedOfCode}
use Rattle.cl_nodes.specs.Asked.{frame_for}
use Rattle.cl_nodes.specs.Accepting.{IsAccepted, told_seen}
use Rattle.cl_nodes.specs.Bounded.{costs_of, entries_of}
use Rattle.cl_nodes.specs.declared.contracts.Contracts.{Contracts as ContractsOfCode}
use Rattle.cl_engine.specs.Ends.{cost_by, stop_by}
use Rattle.cl_engine.specs.declared.prepare.Prepared.{Prepared}
use Rattle.cl_engine.specs.declared.deployment.Ran.{Ran}
use Rattle.cl_engine.specs.declared.deployment.Ran.TheVariants.{Done, Stopped}

-- ---- what is evaluated

-- an accepted contract, in the frame of its deployment
pub record IsPrepared (d : Deployment) (m : Moment) (cs : ContractsOfCode) (p : Prepared) : Type 0 where
  pub accepted : IsAccepted d cs p.accepted
  pub frame : frame_seen p.frame ≡ frame_for d m

-- what the evaluation of an accepted contract means, on the top state of a world
abbrev pub evaluation_of : ContractsOfCode → Prepared → World → Answer Contract
evaluation_of cs p world = deployment (deployed_seen cs.deployed) (frame_seen p.frame) (contract_with p.accepted.checked []) world.stack.top

-- the constants with their values, and the key by which they are hashed
abbrev pub Constants : Type 0
Constants = IndexMap (List ℕ) Val HashKey

-- the contract is given with these constants, at this cost and with these events, and no condition of the entry fails; the state
-- then, at rest, is the one after
pub record IsDone (common : Common) (l : Limited Contract) (c : Checked) (cost : Cost5) (constants : List (List ℕ × Val)) (events : List Event) (after : State) : Type 0 where
  pub state : State
  pub purse : Purse
  pub gave : l ≡ Gave (contract_with c constants) state purse
  pub spent : purse.spent ≡ cost
  pub passes : holds state.moves common.mode common.conditions ≡ None
  pub told : events ≡ state.events
  pub rests : after ≡ at_rest state

-- it stops so, at this cost, whatever is told; the state is as before
pub record IsStopped (common : Common) (l : Limited Contract) (why : Stop) (cost : Cost5) (before after : State) : Type 0 where
  pub ended : (node : NodeSeen) (told : Told) (known : Known) → deployment_ended common node told known l ≡ Some (aborted node told why cost)
  pub undone : after ≡ before

-- what a limit leaves of the deployment of a contract, by how it ran
abbrev pub Runs : Common → Limited Contract → Checked → Ran → State → State → Type 0
Runs common l c (Done cost constants events) before after = IsDone common l c cost constants.entries events.items after
Runs common l c (Stopped why cost) before after = IsStopped common l why cost before after

-- an evaluation that ended so on a layer, with this condition failing if any, where so much is spent: it is done, and the
-- layer's state is the one after; or it stops, and the one below is
abbrev pub EndsAs : Result Constants (Fault Abort) → Option ℕ → Cost5 → Ran → Stack → State → Type 0
EndsAs (Ok given) None spent (Done cost constants events) layer after = (constants ≡ given) × (cost ≡ spent) × (events.items ≡ layer.top.events) × (after ≡ at_rest layer.top)
EndsAs (Ok given) (Some index) spent (Stopped why cost) layer after = (why ≡ PostCondition index) × (cost ≡ spent) × (after ∷ [] ≡ layer.below)
EndsAs (Err (Refused abort)) failing spent (Stopped why cost) layer after = (why ≡ stop_by abort) × (cost ≡ cost_by abort spent) × (after ∷ [] ≡ layer.below)
EndsAs ended failing spent ran layer after = ⊥

-- ---- what is added

-- the contract of a deployment that is done
abbrev pub contract_done : AcceptedOfCode → Constants → ContractOfCode
contract_done a constants = record { checked = a.checked; constants = constants.entries }

-- it can be added where the deployment is done
abbrev pub IsAddable : ContractsOfCode → AcceptedOfCode → Ran → Type 0
IsAddable cs a (Done cost constants events) =
    (contract_under a.checked.principal (entries_of cs) ≡ None) × FitsAfter cs.deployed a.checked × AreConstants (contract_done a constants) × AreBoundsOf (costs_of cs) (entries_of cs) a.checked a.bounds
IsAddable cs a (Stopped why cost) = Unit {0}

-- the contracts after a deployment that ran so
abbrev pub entries_after : Contracts → AcceptedOfCode → Ran → Contracts
entries_after es a (Done cost constants events) = es ++ (a.checked.principal, contract_done a constants) ∷ []
entries_after es a (Stopped why cost) = es

-- its result
abbrev pub result_after : AcceptedOfCode → Ran → TxResult
result_after a (Done cost constants events) = result_of (told_seen a.told) outcome.Done (Some cost) events.items
result_after a (Stopped why cost) = result_of (told_seen a.told) (outcome.Aborted why) (Some cost) []
