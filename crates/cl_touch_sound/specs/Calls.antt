-- Calls at nodes: their spots, nodes that step alike, and nodes between which calls were committed.
use Rattle.std.specs.Prelude.{◌≡◌, List, [], ◌∷◌, Contains}
use Rattle.cl_events.specs.State.{State}
use Rattle.cl_costs.specs.Schedules.{ScheduleSeen}
use Rattle.cl_meaning.specs.Deployed.{Deployed}
use Rattle.cl_file.specs.declared.entry.Entry.{Entry}
use Rattle.cl_file.specs.declared.entry.Entry.TheVariants.{Call}
use Rattle.cl_tx.specs.Nodes.{NodeSeen, Stepped}
use Rattle.cl_tx.specs.Step.{Steps}
use Rattle.cl_tables.specs.declared.spot.Spot.{Spot}
use Rattle.cl_spots.specs.Spots.{Agree, IsChangedAt}
use Rattle.cl_touch.specs.CallSpots.{TouchedByCall, WrittenByCall, IsFootprint}

-- ---- entries that are calls

abbrev pub IsCall : Entry → Type 0
IsCall (Call common p f args) = Unit {0}
IsCall entry = ⊥

-- the spots that an entry touches where it is a call, and those that it writes
abbrev pub TouchedBy : Deployed → Entry → Spot → Type 0
TouchedBy W (Call common p f args) x = TouchedByCall W p f x
TouchedBy W entry x = ⊥

abbrev pub WrittenBy : Deployed → Entry → Spot → Type 0
WrittenBy W (Call common p f args) x = WrittenByCall W p f x
WrittenBy W entry x = ⊥

-- an entry that is a call, with these spots, each once
abbrev pub IsFootprintOf : Deployed → Entry → List Spot → List Spot → Type 0
IsFootprintOf W (Call common p f args) touched written = IsFootprint W p f touched written
IsFootprintOf W entry touched written = ⊥

-- ---- steps

-- a state without events and moves, as that of each node
abbrev pub IsAtRest : State → Type 0
IsAtRest s = (s.events ≡ []) × (s.moves ≡ [])

-- two nodes with equal contracts and height
abbrev pub DifferInState : NodeSeen → NodeSeen → Type 0
DifferInState n m = m ≡ record n { state = m.state }

-- what a call makes of a node: its state is changed at these spots alone
pub record IsNodeChangedAt (written : Spot → Type 0) (before after : NodeSeen) : Type 0 where
  pub rest : DifferInState before after
  pub state : IsChangedAt written before.state after.state
  pub events : after.state.events ≡ before.state.events
  pub moves : after.state.moves ≡ before.state.moves

-- Two nodes stepped alike: the results are equal, the states agree afterwards, and each node was changed at the written spots
-- alone.
pub record StepAlike (touched written : Spot → Type 0) (n m : NodeSeen) (a b : Stepped) : Type 0 where
  pub result : a.result ≡ b.result
  pub agree : Agree touched a.node.state b.node.state
  pub first : IsNodeChangedAt written n a.node
  pub second : IsNodeChangedAt written m b.node

-- ---- calls that were committed in between

-- a call makes one node of another; the list has the spots that it writes, and maybe more
pub record CallBetween (schedule : ScheduleSeen) (n : NodeSeen) (spots : List Spot) (m : NodeSeen) : Type 0 where
  pub entry : Entry
  pub call : IsCall entry
  pub step : Stepped
  pub steps : Steps schedule n entry step
  pub after : step.node ≡ m
  pub covers : (x : Spot) → WrittenBy n.contracts entry x → Contains spots x

-- from one node to another by calls, with such a list for each
abbrev pub CallsBetween : ScheduleSeen → NodeSeen → List (List Spot) → NodeSeen → Type 0
CallsBetween schedule n [] m = m ≡ n
CallsBetween schedule n (spots ∷ more) m =
    (next : NodeSeen) × CallBetween schedule n spots next × CallsBetween schedule next more m
