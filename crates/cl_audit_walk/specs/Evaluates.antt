-- The clause of each function of the walk.
use Rattle.std.specs.Prelude.{◌≡◌, List, Option, Result, Ok, Err}
use Rattle.std.proofs.Common.{Vec, Global}
use Rattle.cl_costs.specs.Tables.{function_of}
use Rattle.cl_values.specs.Tree.{Tree as Val}
use Rattle.cl_events.specs.State.{State}
use Rattle.cl_meaning.specs.Answers.{Answer, Outcome, Given, Aborted, Wrong}
use Rattle.cl_meaning.specs.Scope.{Scope as Around}
use Rattle.cl_meaning.specs.Limits.{Charge}
use Rattle.cl_walks.specs.declared.stop.Stop.{Stop}
use Rattle.cl_walks.specs.declared.stop.Stop.TheVariants as stops
use Rattle.cl_walks.specs.Walked.{Rules, Book, walked}
use Rattle.cl_walks.specs.Ends.{Stops, Ends, cause}
use Rattle.cl_audit_steps.specs.declared.scope.Scope.{Scope}
use Rattle.cl_audit_steps.specs.Named.{Named}
use Rattle.cl_audit_steps.specs.Seen.{seen}
use Rattle.cl_audit_steps.specs.Steps.{behind}
use Rattle.cl_audit_walk.specs.declared.cursor.Cursor.{Cursor}
use Rattle.cl_audit_walk.specs.declared.run.Run.{Run}
use Rattle.cl_audit_walk.specs.Looking.{look}

-- a scope with its bound names, as the meaning has it
abbrev pub around : Scope → Named → Around
around S N = seen S N.values

abbrev pub rules : Scope → Rules Cursor
rules S = record { costs = function_of S.costs.now; look = look }

abbrev pub book : Run → Book Cursor
book r = record { purse = r.meter; kept = r.cursor }

-- A walk in a scope ends as the limit leaves an answer on the top state, charge by charge and claim by claim; and no state below
-- changes.
pub record Evaluates {A : Type 0} (S : Scope) (answer : State → Answer A) (old : Run) (result : Result A Stop) (new : Run) : Type 0 where
  pub ends : Ends (walked (rules S) (book old) (answer old.world.stack.top)) result (book new) new.world.stack.top
  pub below : new.world.stack.below ≡ old.world.stack.below

abbrev pub items_in : {A : Type 0} → Result (Vec A Global) Stop → Result (List A) Stop
items_in (Ok v) = Ok v.items
items_in (Err stop) = Err stop

-- what is charged before an answer
abbrev pub IsCharged : Scope → Option Charge → Run → Result (Unit {0}) Stop → Run → Type 0
IsCharged S c old (Ok u) new = (a : Answer Val) → walked (rules S) (book old) (behind c a) ≡ walked (rules S) (book new) a
IsCharged S c old (Err stop) new = (a : Answer Val) (s : State) → Stops (walked (rules S) (book old) (behind c a)) stop (book new) s

-- a charge is paid, or the sum is above the limit
pub record Pays (S : Scope) (c : Option Charge) (old : Run) (result : Result (Unit {0}) Stop) (new : Run) : Type 0 where
  pub charged : IsCharged S c old result new
  pub world : new.world.stack ≡ old.world.stack

-- the outcome that a native's value is
abbrev pub Computes : Outcome Val → Result Val Stop → Type 0
Computes o (Ok v) = o ≡ Given v
Computes o (Err (stops.Aborted why)) = o ≡ Aborted (cause why)
Computes o (Err stops.Stuck) = o ≡ Wrong
Computes o (Err stops.NoMemory) = Unit {0}
Computes o (Err stop) = ⊥
