-- Two evaluations side by side.
use Rattle.std.specs.Prelude.{◌≡◌, List, ◌++◌}
use Rattle.cl_events.specs.State.{State}
use Rattle.cl_events.specs.declared.event.Event.{Event}
use Rattle.cl_events.specs.declared.event.Move.{Move}
use Rattle.cl_meaning.specs.Answers.{Answer}
use Rattle.cl_tables.specs.declared.spot.Spot.{Spot}
use Rattle.cl_spots.specs.Spots.{Agree, IsChangedAt}

-- Two states, and what two evaluations made of them: these agree at the touched spots, each was changed at the written spots
-- alone, and both evaluations emitted the same events and made the same moves.
pub record AreFramed (touched written : Spot → Type 0) (s t u v : State) : Type 0 where
  pub agree : Agree touched u v
  pub first : IsChangedAt written s u
  pub second : IsChangedAt written t v
  pub emitted : List Event
  pub first_events : u.events ≡ s.events ++ emitted
  pub second_events : v.events ≡ t.events ++ emitted
  pub moved : List Move
  pub first_moves : u.moves ≡ s.moves ++ moved
  pub second_moves : v.moves ≡ t.moves ++ moved

-- Answers of two evaluations: the same outcome, the same charges and trace, and framed states.
pub record AnswerAlike (touched written : Spot → Type 0) {A : Type 0} (s t : State) (a b : Answer A) : Type 0 where
  pub outcome : a.outcome ≡ b.outcome
  pub log : a.log ≡ b.log
  pub framed : AreFramed touched written s t a.state b.state
