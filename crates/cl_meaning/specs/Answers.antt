-- Answers of an evaluation: an outcome, the state after it, and the log of the charges and of the nodes that ended; and how
-- answers follow one another.
use Rattle.std.specs.Prelude.{ℕ, if◌then◌else◌, List, [], ◌∷◌, ◌++◌, Option, Some, None}
use Rattle.cl_arith.specs.declared.ArithRefusal.{ArithRefusal}
use Rattle.cl_shapes.specs.declared.name.CostName.{CostName}
use Rattle.cl_sexpr.specs.declared.sexpr.Span.{Span}
use Rattle.cl_values.specs.Tree.{Tree as Val}
use Rattle.cl_values.specs.Computed.{Computed, Gives, Fails, Panics, Undefined, is_within}
use Rattle.cl_events.specs.State.{State}

-- why an evaluation aborts: by arithmetic (A1 to A4), by a panic (A5), or by a supply above its cap (A6)
pub data Cause : Type 0 where
  ByArithmetic : ArithRefusal → Cause
  ByPanic : Cause
  BySupply : Cause

-- What an evaluation comes to: a value is given; a value is thrown, which is the function's early return; it aborts; it is
-- wrong, as no well-typed expression is; or the depth isn't enough.
pub data Outcome (A : Type 0) : Type 0 where
  Given : A → Outcome A
  Thrown : Val → Outcome A
  Aborted : Cause → Outcome A
  Wrong : Outcome A
  Deeper : Outcome A

-- a charge, with its number; or a node that ended with a value
pub data Note : Type 0 where
  Charged : CostName → ℕ → Note
  Ended : Span → Val → Note

pub record Answer (A : Type 0) : Type 0 where
  pub outcome : Outcome A
  pub state : State
  pub log : List Note

-- an outcome without a charge
unfoldable pub stop : {A : Type 0} → Outcome A → State → Answer A
stop o s = record { outcome = o; state = s; log = [] }

abbrev pub give : {A : Type 0} → A → State → Answer A
give a s = stop (Given a) s

abbrev pub wrong : {A : Type 0} → State → Answer A
wrong s = stop Wrong s

-- an answer with one more charge before it
unfoldable pub charged : {A : Type 0} → CostName → ℕ → Answer A → Answer A
charged name n a = record { outcome = a.outcome; state = a.state; log = Charged name n ∷ a.log }

-- an answer with a log before its own
abbrev pub after_log : {A : Type 0} → List Note → Answer A → Answer A
after_log log a = record { outcome = a.outcome; state = a.state; log = log ++ a.log }

abbrev pub then_on : {A B : Type 0} → Outcome A → State → List Note → (A → State → Answer B) → Answer B
then_on (Given a) s log go_on = after_log log (go_on a s)
then_on (Thrown v) s log go_on = record { outcome = Thrown v; state = s; log = log }
then_on (Aborted why) s log go_on = record { outcome = Aborted why; state = s; log = log }
then_on Wrong s log go_on = record { outcome = Wrong; state = s; log = log }
then_on Deeper s log go_on = record { outcome = Deeper; state = s; log = log }

-- goes on with the value that was given, on the state that was left; all else ends here
unfoldable pub and_then : {A B : Type 0} → Answer A → (A → State → Answer B) → Answer B
and_then a go_on = then_on a.outcome a.state a.log go_on

abbrev pub end_of : Span → Outcome Val → List Note
end_of span (Given v) = Ended span v ∷ []
end_of span o = []

-- notes that a node ended, where it gave a value
unfoldable pub ending : Span → Answer Val → Answer Val
ending span a = record { outcome = a.outcome; state = a.state; log = a.log ++ end_of span a.outcome }

abbrev pub returned_outcome : Outcome Val → Outcome Val
returned_outcome (Thrown v) = Given v
returned_outcome o = o

-- an early return is a return
unfoldable pub returning : Answer Val → Answer Val
returning a = record { outcome = returned_outcome a.outcome; state = a.state; log = a.log }

-- the outcome that a native's value is; beyond the limits of values it has none
abbrev pub outcome_of : Computed → Outcome Val
outcome_of (Gives v) = if is_within v then Given v else Wrong
outcome_of (Fails why) = Aborted (ByArithmetic why)
outcome_of Panics = Aborted ByPanic
outcome_of Undefined = Wrong

-- goes on with what is there, and is wrong where nothing is
abbrev pub with_known : {A B : Type 0} → Option A → (A → State → Answer B) → State → Answer B
with_known None go_on s = stop Wrong s
with_known (Some a) go_on s = go_on a s
