-- What comes of a call: a function that is found, evaluated on a layer.
use Rattle.std.specs.Prelude.{◌≡◌, ◌<◌, ◌^◌, true, List, length, Some, Result, Ok, Err}
use Rattle.cl_types.specs.declared.fault.NoMemory.{NoMemory}
use Rattle.cl_code.specs.Typed.{goes_by}
use Rattle.cl_events.specs.State.{State}
use Rattle.cl_state.specs.Stack.{Seen as World}
use Rattle.cl_meaning.specs.Deployed.{contract_at, function_in}
use Rattle.cl_meaning.specs.Limits.{Costs}
use Rattle.cl_rules.specs.Context.{Known}
use Rattle.cl_contract_sound.specs.Nodes.{AreContracts}
use Rattle.cl_contracts.specs.declared.deployed.Deployed.{Deployed}
use Rattle.cl_contracts.specs.Seen.{IsEntry, contract_seen, deployed_seen, forms_of, function_seen}
use Rattle.cl_frames.specs.Watching as watching
use Rattle.cl_tx.specs.declared.outcome.EntryRefusal.{EntryRefusal}
use Rattle.cl_tx.specs.declared.outcome.TxResult.{TxResult}
use Rattle.cl_tx.specs.Nodes.{NodeSeen, Stepped, refused}
use Rattle.cl_tx.specs.Step.{call_step}
use Rattle.cl_nodes.specs.declared.ending.Ended.{Ended}
use Rattle.cl_nodes.specs.Calling.{MayBeCalled, ended_so}
use Rattle.cl_nodes.specs.declared.asked.Invocation.{Invocation}
use Rattle.cl_nodes.specs.declared.asked.Moment.{Moment}
use Rattle.cl_engine.specs.declared.call.Found.{Found}
use Rattle.cl_nodes.specs.declared.contracts.BoundedContracts.{BoundedContracts}
use Rattle.cl_nodes.specs.Seen.{node_with}
use Rattle.cl_nodes.specs.Sound.{IsSoundWith}
use Rattle.cl_nodes.specs.Asked.{call_entry, costs_at, seen_at}
use Rattle.cl_engine.specs.Asked.{SeesPartUnder, SeesTraceUnder}

-- the step of a call at a node
abbrev pub steps_of : Costs → NodeSeen → Invocation → Stepped → Type 0
steps_of costs node i s = call_step costs node i.common.now i.contract.now i.function.now i.args.now ≡ Some s

-- ---- the function

-- the deployed contracts were accepted, and this is what callers know of them
pub record AreAccepted (deployed : Deployed) : Type 0 where
  pub known : List Known
  pub contracts : AreContracts (deployed_seen deployed) known

-- a function of this name in the contract that is deployed, which may be called with the values
pub record IsFound (i : Invocation) (deployed : Deployed) (f : Found) : Type 0 where
  pub there : contract_at i.contract.now (deployed_seen deployed) ≡ Some (contract_seen (i.contract.now, f.contract.now))
  pub entry : IsEntry (i.contract.now, f.contract.now)
  pub function : function_in i.function.now (forms_of f.contract.now.checked) ≡ Some (function_seen f.function.now)
  pub goes : goes_by f.contract.now.checked.version f.function.now.body ≡ true
  pub few : length i.args.now < 2 ^ 32
  pub may : MayBeCalled (function_seen f.function.now) i.args.now

-- this is why the call is refused before its bound is looked at
abbrev pub IsCallRefusal : Invocation → Deployed → EntryRefusal → Type 0
IsCallRefusal i deployed refusal = (costs : Costs) (node : NodeSeen) → node.contracts ≡ deployed_seen deployed → steps_of costs node i (refused node refusal)

-- ---- on a layer

-- how a call ends on a layer
abbrev pub EndsCall : Invocation → Moment → BoundedContracts → World → Ended → World → Type 0
EndsCall i m contracts world e world_after =
    let deployed = contracts.deployed.now in let before = seen_at world deployed m in
    (known : List Known) → IsSoundWith deployed.contracts before known →
    steps_of (costs_at m) (node_with known before) i (ended_so e (node_with known before) world_after.stack.top)

-- the result that a call has, whatever state it leaves
abbrev pub GivesCall : Invocation → Moment → BoundedContracts → World → TxResult → Type 0
GivesCall i m contracts world result =
    let deployed = contracts.deployed.now in let before = seen_at world deployed m in
    (known : List Known) → IsSoundWith deployed.contracts before known →
    (after : State) × steps_of (costs_at m) (node_with known before) i (record { node = record (node_with known before) { state = after }; result = result })

-- ---- what is seen of it

-- what was seen grew by the call's trace; after want of memory by a prefix of it
abbrev pub SeesEnded : Invocation → Moment → BoundedContracts → World → Result Ended NoMemory → watching.Seen → watching.Seen → Type 0
SeesEnded i m contracts world (Ok e) seen now =
    let deployed = contracts.deployed.now in
    SeesTraceUnder (costs_at m) deployed.contracts (seen_at world deployed m) (call_entry i) e.outcome seen now
SeesEnded i m contracts world (Err e) seen now =
    let deployed = contracts.deployed.now in
    SeesPartUnder (costs_at m) deployed.contracts (seen_at world deployed m) (call_entry i) seen now
