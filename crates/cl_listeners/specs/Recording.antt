-- A listener in memory, as contracts see it.
use Rattle.std.specs.Prelude.{ℕ, List}
use Rattle.cl_events.specs.declared.event.Event.{Event}

-- `Recorder`: what it heard, the calls that are to fail, and what has happened
pub record RecorderState : Type 0 where
  pub heard : List Event
  pub fails : List ℕ
  pub calls : ℕ
  pub faults : ℕ
