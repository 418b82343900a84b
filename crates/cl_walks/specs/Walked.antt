-- An answer as a walk meets it: its charges are paid and its nodes observed one after another, up to the charge that passes the
-- limit. What is kept of the nodes is the observer's own.
use Rattle.std.specs.Prelude.{List, [], ◌∷◌, Result, Ok, Err}
use Rattle.cl_shapes.specs.Limits.{Purse, spend}
use Rattle.cl_shapes.specs.declared.limit.Over.{Over}
use Rattle.cl_sexpr.specs.declared.sexpr.Span.{Span}
use Rattle.cl_values.specs.Tree.{Tree as Val}
use Rattle.cl_events.specs.State.{State}
use Rattle.cl_meaning.specs.Answers.{Outcome, Given, Thrown, Aborted, Wrong, Deeper, Cause, Answer, Note, Charged, Ended}
use Rattle.cl_meaning.specs.Limits.{Costs, cost_of}

-- the costs, and what an observer keeps of a node that gave a value
pub record Rules (K : Type 0) : Type 0 where
  pub costs : Costs
  pub look : Span → Val → K → K

-- what is left of the limit, and what the observer keeps by now
pub record Book (K : Type 0) : Type 0 where
  pub purse : Purse
  pub kept : K

-- a log that is followed so far, or up to the charge that passes the limit
pub data Followed (K : Type 0) : Type 0 where
  Going : Book K → Followed K
  Past : Over → Book K → Followed K

abbrev pub paid_by : {K : Type 0} → Book K → Result Purse Over → Followed K
paid_by b (Ok p) = Going (record b { purse = p })
paid_by b (Err over) = Past over b

abbrev pub looked : {K : Type 0} → Rules K → Span → Val → Book K → Book K
looked R at v b = record b { kept = R.look at v b.kept }

unfoldable pub follow : {K : Type 0} → Rules K → Followed K → List Note → Followed K
follow R (Past over b) log = Past over b
follow R (Going b) [] = Going b
follow R (Going b) (Charged name n ∷ log) = follow R (paid_by b (spend b.purse (cost_of R.costs name n))) log
follow R (Going b) (Ended at v ∷ log) = follow R (Going (looked R at v b)) log

-- an answer that was followed; Lost is a wrong one, or one whose depth isn't enough
pub data Walked (K A : Type 0) : Type 0 where
  Gave : A → State → Book K → Walked K A
  Threw : Val → State → Book K → Walked K A
  AbortedBy : Cause → Book K → Walked K A
  Passed : Over → Book K → Walked K A
  Lost : Book K → Walked K A

abbrev pub ended_on : {K A : Type 0} → Followed K → Outcome A → State → Walked K A
ended_on (Past over b) o s = Passed over b
ended_on (Going b) (Given a) s = Gave a s b
ended_on (Going b) (Thrown v) s = Threw v s b
ended_on (Going b) (Aborted why) s = AbortedBy why b
ended_on (Going b) Wrong s = Lost b
ended_on (Going b) Deeper s = Lost b

unfoldable pub walked : {K A : Type 0} → Rules K → Book K → Answer A → Walked K A
walked R b a = ended_on (follow R (Going b) a.log) a.outcome a.state

-- goes on where a value was given
abbrev pub after : {K A B : Type 0} → Walked K A → (A → State → Book K → Walked K B) → Walked K B
after (Gave a s b) go_on = go_on a s b
after (Threw v s b) go_on = Threw v s b
after (AbortedBy why b) go_on = AbortedBy why b
after (Passed over b) go_on = Passed over b
after (Lost b) go_on = Lost b

-- an early return taken for a return
abbrev pub returned : {K : Type 0} → Walked K Val → Walked K Val
returned (Threw v s b) = Gave v s b
returned w = w
