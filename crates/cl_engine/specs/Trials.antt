-- Calls that are tried on a copy of a node's world.
use Rattle.cl_state.specs.Stack.{Seen as World}
use Rattle.cl_nodes.specs.declared.asked.Invocation.{Invocation}
use Rattle.cl_nodes.specs.declared.asked.Moment.{Moment}
use Rattle.cl_nodes.specs.declared.contracts.Contracts.{Contracts as ContractsOfCode}
use Rattle.cl_engine.specs.declared.trial.Trial.{Trial}
use Rattle.cl_nodes.specs.Steps.{MakesSound}
use Rattle.cl_nodes.specs.Asked.{call_entry, costs_at, seen_at}
use Rattle.cl_nodes.specs.Bounded.{entries_of}

-- what a call makes of a world with these contracts
abbrev pub TriesCall : Invocation → Moment → ContractsOfCode → World → Trial → Type 0
TriesCall i m contracts world t =
    MakesSound (costs_at m) (entries_of contracts) (seen_at world contracts.deployed m) (call_entry i) t.result
    (entries_of contracts) (seen_at t.world contracts.deployed m)
