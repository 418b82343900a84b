-- What listeners hear.
use Rattle.std.specs.Prelude.{◌≡◌, ℕ, ◌<◌, ◌≤◌, List, [], ◌∷◌, ◌++◌, length, take, map, Option, option_map}
use Rattle.std.specs.List.{IsDistinct}
use Rattle.std.specs.List.Sorted.{IsPermutation}
use Rattle.std.specs.Bool.{nat_eq}
use Rattle.cl_ports.specs.Growth.{Rose}
use Rattle.cl_events.specs.declared.event.Event.{Event}

-- a listener: its number, what it heard, where that is told, and how often it failed
pub record Heard : Type 0 where
  pub number : ℕ
  pub heard : Option (List Event)
  pub faults : ℕ

abbrev pub heard_by : ℕ → Option (List Event) → ℕ → Heard
heard_by number heard faults = record { number = number; heard = heard; faults = faults }

-- the active and the deaf
pub record Both : Type 0 where
  pub active : List Heard
  pub deaf : List Heard

abbrev pub one : Event → List Event
one e = e ∷ []

-- what was heard, where that is told, with these events behind it
abbrev pub with_more : List Event → Option (List Event) → Option (List Event)
with_more events heard = option_map (λ before. before ++ events) heard

abbrev pub numbers : List Heard → List ℕ
numbers all = map (λ l. l.number) all

-- the numbers of all, active and deaf
abbrev pub all_numbers : Both → List ℕ
all_numbers both = numbers both.active ++ numbers both.deaf

-- no number stands twice
abbrev pub AreDistinct : List ℕ → Type 0
AreDistinct ns = IsDistinct nat_eq ns

-- it heard all of the events
pub record HeardAll (events : List Event) (before now : Heard) : Type 0 where
  pub number : now.number ≡ before.number
  pub heard : now.heard ≡ with_more events before.heard
  pub faults : now.faults ≡ before.faults

-- it failed, and heard the events before that alone
pub record WentDeaf (events : List Event) (before now : Heard) : Type 0 where
  pub number : now.number ≡ before.number
  pub count : ℕ
  pub proper : count < length events
  pub heard : now.heard ≡ with_more (take count events) before.heard
  pub kept : before.faults ≤ now.faults
  pub rose : Rose before.faults now.faults

-- each listener heard all and stayed, or failed and left, in their order
pub data Parted (events : List Event) : List Heard → List Heard → List Heard → Type 0 where
  nobody : Parted events [] [] []
  stays : {before now : Heard} {all active deaf : List Heard} → HeardAll events before now → Parted events all active deaf → Parted events (before ∷ all) (now ∷ active) deaf
  leaves : {before now : Heard} {all active deaf : List Heard} → WentDeaf events before now → Parted events all active deaf → Parted events (before ∷ all) active (now ∷ deaf)

-- The events were told to the active: those that failed stand, in their order, behind those that were deaf before.
pub record Told (events : List Event) (before now : Both) : Type 0 where
  pub left : List Heard
  pub parted : Parted events before.active now.active left
  pub deaf : now.deaf ≡ before.deaf ++ left

-- The same after any number of calls, one after another: those that failed stand behind in the order in which they did.
pub record ToldInTurn (events : List Event) (before now : Both) : Type 0 where
  pub left : List Heard
  pub parted : Parted events before.active now.active left
  pub gone : List Heard
  pub same : IsPermutation left gone
  pub deaf : now.deaf ≡ before.deaf ++ gone
