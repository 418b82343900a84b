-- States that differ in what was printed alone.
use Rattle.std.specs.Prelude.{◌≡◌, List, [], ◌∷◌, ◌++◌}
use Rattle.cl_events.specs.State.{State}
use Rattle.cl_events.specs.declared.event.Event.{Event}
use Rattle.cl_events.specs.declared.event.EventKind.{EventKind}
use Rattle.cl_events.specs.declared.event.EventKind.TheVariants.{Print}

abbrev pub IsPrint : EventKind → Type 0
IsPrint (Print v) = Unit {0}
IsPrint kind = ⊥

-- events each of which was printed
abbrev pub ArePrints : List Event → Type 0
ArePrints [] = Unit {0}
ArePrints (e ∷ es) = IsPrint e.kind × ArePrints es

-- Variables, map entries, tokens and STX are as before, and nothing was moved; behind the events before stand those that were
-- printed.
pub record IsUntouched (before after : State) : Type 0 where
  pub variables : after.variables ≡ before.variables
  pub entries : after.entries ≡ before.entries
  pub fungibles : after.fungibles ≡ before.fungibles
  pub nonfungibles : after.nonfungibles ≡ before.nonfungibles
  pub stx : after.stx ≡ before.stx
  pub moves : after.moves ≡ before.moves
  pub printed : List Event
  pub prints : ArePrints printed
  pub events : after.events ≡ before.events ++ printed
