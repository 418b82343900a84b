-- What listeners have heard after some calls.
use Rattle.std.specs.Prelude.{◌≡◌, List, [], ◌++◌, All}
use Rattle.std.specs.List.{Any}
use Rattle.std.specs.List.Sorted.{IsPermutation}
use Rattle.cl_events.specs.declared.event.Event.{Event}
use Rattle.cl_listeners.specs.Hearing.{Heard, Both, all_numbers, Told, ToldInTurn, HeardAll, WentDeaf}

-- before the first call
abbrev pub NothingIsTold : Type 0
NothingIsTold = (both : Both) → ToldInTurn [] both both

-- a call without events
abbrev pub NoEventsAreTold : Type 0
NoEventsAreTold = (both : Both) → Told [] both both

-- one more call
abbrev pub MoreIsTold : Type 0
MoreIsTold = (events more : List Event) (before now after : Both) → ToldInTurn events before now → Told more now after → ToldInTurn (events ++ more) before after

-- each active one heard all, and each that went deaf in between a proper first part
abbrev pub EachHearsAPrefix : Type 0
EachHearsAPrefix = (events : List Event) (before now : Both) → ToldInTurn events before now
    → All (λ l. Any (λ b. HeardAll events b l) before.active) now.active
    × (gone : List Heard) × (now.deaf ≡ before.deaf ++ gone) × All (λ l. Any (λ b. WentDeaf events b l) before.active) gone

-- the listeners are the same ones
abbrev pub NobodyIsLost : Type 0
NobodyIsLost = (events : List Event) (before now : Both) → ToldInTurn events before now → IsPermutation (all_numbers before) (all_numbers now)
