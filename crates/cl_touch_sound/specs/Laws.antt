-- The frame law of nodes: a call depends on its touched spots, so what it does may be grafted on a node that agrees there.
use Rattle.std.specs.Prelude.{List, Contains}
use Rattle.cl_events.specs.State.{State}
use Rattle.cl_costs.specs.Schedules.{ScheduleSeen}
use Rattle.cl_file.specs.declared.entry.Entry.{Entry}
use Rattle.cl_tx.specs.declared.outcome.TxResult.{TxResult}
use Rattle.cl_tx.specs.Nodes.{NodeSeen, Stepped}
use Rattle.cl_tx.specs.Step.{Steps}
use Rattle.cl_tables.specs.declared.spot.Spot.{Spot}
use Rattle.cl_spots.specs.Spots.{IsSpot, AgreeAt, Agree, grafted}
use Rattle.cl_touch_sound.specs.Calls.{IsCall, TouchedBy, WrittenBy, IsFootprintOf, IsAtRest, DifferInState, IsNodeChangedAt, StepAlike, CallsBetween}

-- Two nodes with equal contracts and height whose states agree at the touched spots of a call step alike by it.
abbrev pub NodesStepAlike : Type 0
NodesStepAlike =
    (schedule : ScheduleSeen) (n m : NodeSeen) (e : Entry) (a : Stepped) → IsCall e →
    DifferInState n m → IsAtRest n.state → IsAtRest m.state →
    Agree (TouchedBy n.contracts e) n.state m.state →
    Steps schedule n e a →
    (b : Stepped) × Steps schedule m e b
    × StepAlike (TouchedBy n.contracts e) (WrittenBy n.contracts e) n m a b

-- a call changes the state of a node at its written spots alone
abbrev pub CallsChangeNodes : Type 0
CallsChangeNodes =
    (schedule : ScheduleSeen) (n : NodeSeen) (e : Entry) (a : Stepped) → IsCall e →
    IsAtRest n.state → Steps schedule n e a →
    IsNodeChangedAt (WrittenBy n.contracts e) n a.node

-- ---- grafts

-- a node whose state has at some spots what another state has
abbrev pub with_graft : List Spot → State → NodeSeen → NodeSeen
with_graft spots from n = record n { state = grafted spots from n.state }

-- the result of a trial, and a node with the trial's state at the written spots
abbrev pub grafted_step : List Spot → TxResult → State → NodeSeen → Stepped
grafted_step written result state m =
    record { node = with_graft written state m; result = result }

-- A call was tried at one node. On another with equal contracts and height, which agrees with it at the touched spots, the trial
-- is grafted: this is the other node's step.
abbrev pub GraftsAreSteps : Type 0
GraftsAreSteps =
    (schedule : ScheduleSeen) (n m : NodeSeen) (e : Entry) (touched written : List Spot) (trial : Stepped) →
    DifferInState n m → IsAtRest n.state → IsAtRest m.state →
    IsFootprintOf n.contracts e touched written → Agree (Contains touched) n.state m.state →
    Steps schedule n e trial →
    Steps schedule m e (grafted_step written trial.result trial.node.state m)

-- each spot in the lists has a valid principal and name
abbrev pub AreSpots : List (List Spot) → Type 0
AreSpots wrote =
    (spots : List Spot) → Contains wrote spots → (x : Spot) → Contains spots x → IsSpot x

-- no list has the spot
abbrev pub HasNone : List (List Spot) → Spot → Type 0
HasNone wrote x = (spots : List Spot) → Contains wrote spots → Contains spots x → ⊥

-- what calls between two nodes leave: contracts and height, and the state at spots that none of them wrote
pub record AgreeElsewhere (wrote : List (List Spot)) (n m : NodeSeen) : Type 0 where
  pub differ : DifferInState n m
  pub rest : IsAtRest m.state
  pub agree : (x : Spot) → IsSpot x → HasNone wrote x → AgreeAt n.state m.state x

abbrev pub OthersStay : Type 0
OthersStay =
    (schedule : ScheduleSeen) (n m : NodeSeen) (wrote : List (List Spot)) → IsAtRest n.state →
    AreSpots wrote → CallsBetween schedule n wrote m → AgreeElsewhere wrote n m

-- A call was tried at a node; then calls were committed of which none wrote a spot that it touches. The trial is grafted, and this
-- is the present node's step.
abbrev pub TrialsMayBeCommitted : Type 0
TrialsMayBeCommitted =
    (schedule : ScheduleSeen) (n m : NodeSeen) (wrote : List (List Spot)) (e : Entry) (touched written : List Spot) (trial : Stepped) →
    IsAtRest n.state → AreSpots wrote → CallsBetween schedule n wrote m →
    IsFootprintOf n.contracts e touched written →
    ((x : Spot) → Contains touched x → HasNone wrote x) →
    Steps schedule n e trial →
    Steps schedule m e (grafted_step written trial.result trial.node.state m)
