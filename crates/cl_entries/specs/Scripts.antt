-- What a command does: steps, in each of which some events are told and then some bytes written; and how it ends.
use Rattle.std.specs.Prelude.{◌≡◌, ◌≤◌, ℕ, List, [], ◌∷◌, ◌++◌, Option, Result, Ok, Err}
use Rattle.std.specs.List.{flat_map}
use Rattle.cl_ports.specs.Growth.{Rose, Grows}
use Rattle.cl_events.specs.declared.event.Event.{Event}
use Rattle.cl_listeners.specs.Hearing.{Both, ToldInTurn}
use Rattle.cl_entries.specs.declared.status.Reply.{Reply}
use Rattle.cl_entries.specs.declared.status.Status.{Status}
use Rattle.cl_entries.specs.declared.status.Status.TheVariants.{Done, Usage, BadFile, Refused, NotGood, BadWord}
use Rattle.cl_entries.specs.declared.status.Step.{Step}
use Rattle.cl_entries.specs.declared.status.Stop.{Stop}
use Rattle.cl_entries.specs.declared.status.Stop.TheVariants.{ReadFailed, WriteFailed, NoMemory}

-- ---- scripts

-- the steps of a command, one after another, and how it ends: done, or stopped
pub record Script : Type 0 where
  pub steps : List Step
  pub end : Result Status Stop

-- all events that are told, and all bytes that are written
abbrev pub events_of : List Step → List Event
events_of steps = flat_map (λ step. step.events) steps

abbrev pub bytes_of : List Step → List ℕ
bytes_of steps = flat_map (λ step. step.bytes) steps

-- one step, in which nothing is told
abbrev pub script_of : Reply → Script
script_of reply = record { steps = record { events = []; bytes = reply.text } ∷ []; end = Ok reply.status }

-- ---- how far a script is done

-- At some point of a script: so many first steps are done whole, and of the next one nothing, or its events are told and a first part
-- of its bytes is written. By then these events are told and these bytes written.
pub data IsDoneTo : List Step → List Event → List ℕ → Type 0 where
  nothing : {steps : List Step} → IsDoneTo steps [] []
  part : {step : Step} {steps : List Step} (front back : List ℕ) → step.bytes ≡ front ++ back → IsDoneTo (step ∷ steps) step.events front
  more : {step : Step} {steps : List Step} {events : List Event} {bytes : List ℕ} → IsDoneTo steps events bytes → IsDoneTo (step ∷ steps) (step.events ++ events) (step.bytes ++ bytes)

-- up to some point of the steps, listeners were told and bytes written, and no more
pub record DoesPart (steps : List Step) (before now : Option (List ℕ)) (were are : Both) : Type 0 where
  pub events : List Event
  pub bytes : List ℕ
  pub point : IsDoneTo steps events bytes
  pub told : ToldInTurn events were are
  pub written : Grows before now bytes

-- all of the steps were done
pub record DoesAll (steps : List Step) (before now : Option (List ℕ)) (were are : Both) : Type 0 where
  pub told : ToldInTurn (events_of steps) were are
  pub written : Grows before now (bytes_of steps)

-- ---- statuses

abbrev pub number_of : Status → ℕ
number_of Done = 0
number_of Usage = 2
number_of BadFile = 5
number_of Refused = 6
number_of NotGood = 7
number_of BadWord = 8

abbrev pub stop_number : Stop → ℕ
stop_number ReadFailed = 3
stop_number WriteFailed = 4
stop_number NoMemory = 9

abbrev pub end_number : Result Status Stop → ℕ
end_number (Ok status) = number_of status
end_number (Err stop) = stop_number stop

-- ---- counts of faults

-- of what writes nothing: the files' count of faults rose where a read failed, and else it stayed
abbrev pub CountsRead : {T : Type 0} → ℕ → ℕ → Result T Stop → Type 0
CountsRead before now (Ok x) = now ≡ before
CountsRead before now (Err ReadFailed) = (before ≤ now) × Rose before now
CountsRead before now (Err WriteFailed) = ⊥
CountsRead before now (Err NoMemory) = now ≡ before

-- of what reads nothing: the sink's count of faults rose where a write failed, and else it stayed
abbrev pub CountsWrite : {T : Type 0} → ℕ → ℕ → Result T Stop → Type 0
CountsWrite before now (Ok x) = now ≡ before
CountsWrite before now (Err ReadFailed) = ⊥
CountsWrite before now (Err WriteFailed) = (before ≤ now) × Rose before now
CountsWrite before now (Err NoMemory) = now ≡ before
