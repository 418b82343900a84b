-- What is made of what is asked of a node, under the costs of its height.
use Rattle.std.specs.Prelude.{◌≡◌, List, Result, Ok, Err}
use Rattle.cl_types.specs.declared.fault.NoMemory.{NoMemory}
use Rattle.cl_code.specs.Watched.{GrewBy}
use Rattle.cl_state.specs.Stack.{Seen as World}
use Rattle.cl_meaning.specs.Limits.{Costs}
use Rattle.cl_rules.specs.Context.{Known}
use Rattle.cl_contracts.specs.declared.deployed.Deployed.{Deployed}
use Rattle.cl_frames.specs.Watching.{GrewByStart}
use Rattle.cl_frames.specs.Watching as watching
use Rattle.cl_node_sound.specs.Sound.{HasParts}
use Rattle.cl_file.specs.declared.entry.Entry.{Entry}
use Rattle.cl_tx.specs.declared.outcome.Outcome.{Outcome}
use Rattle.cl_tx.specs.declared.outcome.TxResult.{TxResult}
use Rattle.cl_tx.specs.Nodes.{Stepped}
use Rattle.cl_nodes.specs.declared.asked.Deployment.{Deployment}
use Rattle.cl_nodes.specs.declared.asked.Invocation.{Invocation}
use Rattle.cl_nodes.specs.declared.asked.Moment.{Moment}
use Rattle.cl_nodes.specs.declared.contracts.BoundedContracts.{BoundedContracts}
use Rattle.cl_nodes.specs.Seen.{Seen, node_with, seen}
use Rattle.cl_nodes.specs.Sound.{Contracts, IsSound, IsSoundWith}
use Rattle.cl_nodes.specs.Asked.{deployment_entry, call_entry, costs_at, seen_at}
use Rattle.cl_nodes.specs.Steps.{MakesSound, StepsUnder}
use Rattle.cl_engine.specs.Traces.{Trace, IsTrace}
use Rattle.cl_nodes.specs.Bounded.{AreBounded, entries_of}
use Rattle.cl_nodes.specs.declared.contracts.Contracts.{Contracts as ContractsOfCode}

-- the contracts were accepted, the top state is kept, and the parts of the entry are within their limits
pub record IsReady (world : World) (deployed : Deployed) (moment : Moment) (entry : Entry) : Type 0 where
  pub sound : IsSound deployed.contracts (seen_at world deployed moment)
  pub parts : HasParts entry

-- ---- what an entry makes of a sound node

-- what a deployment makes of a world and contracts
abbrev pub Deploys : Deployment → Moment → World → ContractsOfCode → TxResult → World → ContractsOfCode → Type 0
Deploys d m world contracts result world_after contracts_after =
    MakesSound (costs_at m) (entries_of contracts) (seen_at world contracts.deployed m) (deployment_entry d) result
    (entries_of contracts_after) (seen_at world_after contracts_after.deployed m)

-- what a call makes of a world
abbrev pub Calls : Invocation → Moment → BoundedContracts → World → TxResult → World → Type 0
Calls i m contracts world result world_after =
    let deployed = contracts.deployed.now in
    MakesSound (costs_at m) deployed.contracts (seen_at world deployed m) (call_entry i) result deployed.contracts (seen_at world_after deployed m)

-- nothing changed but for the table under which bounds are kept
pub record IsUnchanged (world : World) (contracts : ContractsOfCode) (world_after : World) (contracts_after : ContractsOfCode) : Type 0 where
  pub state : world_after.stack.top ≡ world.stack.top
  pub contracts_are : entries_of contracts_after ≡ entries_of contracts

-- ---- what a watch has seen of it

-- what was seen grew by the trace of an entry of which this becomes
abbrev pub SeesTraceUnder : Costs → Contracts → Seen → Entry → Outcome → watching.Seen → watching.Seen → Type 0
SeesTraceUnder costs contracts before entry outcome seen now =
    (known : List Known) → IsSoundWith contracts before known → (found : Trace) × IsTrace costs (node_with known before) entry outcome found × GrewBy seen now found

-- or by a prefix of it
abbrev pub SeesPartUnder : Costs → Contracts → Seen → Entry → watching.Seen → watching.Seen → Type 0
SeesPartUnder costs contracts before entry seen now =
    (known : List Known) → IsSoundWith contracts before known → (s : Stepped) → StepsUnder costs (node_with known before) entry s →
    (found : Trace) → IsTrace costs (node_with known before) entry s.result.outcome found → GrewByStart seen now found

abbrev pub SeesUnder : Costs → Contracts → Seen → Entry → Result TxResult NoMemory → watching.Seen → watching.Seen → Type 0
SeesUnder costs contracts before entry (Ok r) seen now = SeesTraceUnder costs contracts before entry r.outcome seen now
SeesUnder costs contracts before entry (Err e) seen now = SeesPartUnder costs contracts before entry seen now

-- of a deployment
abbrev pub SeesDeployment : Deployment → Moment → World → ContractsOfCode → Result TxResult NoMemory → watching.Seen → watching.Seen → Type 0
SeesDeployment d m world contracts result seen now =
    SeesUnder (costs_at m) (entries_of contracts) (seen_at world contracts.deployed m) (deployment_entry d) result seen now

-- of a call
abbrev pub SeesCall : Invocation → Moment → BoundedContracts → World → Result TxResult NoMemory → watching.Seen → watching.Seen → Type 0
SeesCall i m contracts world result seen now =
    let deployed = contracts.deployed.now in
    SeesUnder (costs_at m) deployed.contracts (seen_at world deployed m) (call_entry i) result seen now

-- bounds of these contracts, as a call finds them
abbrev pub IsCallable : BoundedContracts → Moment → Type 0
IsCallable contracts m = AreBounded (costs_at m) contracts.deployed.now contracts.bounds.now
