-- The cost sum of an answer, and what a limit leaves of it.
use Rattle.std.specs.Prelude.{ℕ, List, [], ◌∷◌, Result, Ok, Err}
use Rattle.cl_shapes.specs.declared.cost.Cost5.{Cost5}
pub use Rattle.cl_shapes.specs.Names.{CostTable as Costs}
use Rattle.cl_shapes.specs.declared.limit.Over.{Over}
use Rattle.cl_shapes.specs.declared.name.CostName.{CostName}
use Rattle.cl_shapes.specs.Costs.{plus, zero_cost}
use Rattle.cl_shapes.specs.Functions.{cost_at}
use Rattle.cl_shapes.specs.Limits.{Purse, spend}
use Rattle.cl_values.specs.Tree.{Tree as Val}
use Rattle.cl_events.specs.State.{State}
use Rattle.cl_meaning.specs.Answers.{Outcome, Given, Thrown, Aborted, Wrong, Deeper, Cause, Answer, Note, Charged, Ended}

-- a name, and the number at which it is charged
abbrev pub Charge : Type 0
Charge = CostName × ℕ

abbrev pub charges_of : List Note → List Charge
charges_of [] = []
charges_of (Charged name n ∷ log) = (name, n) ∷ charges_of log
charges_of (Ended span v ∷ log) = charges_of log

abbrev pub cost_of : Costs → CostName → ℕ → Cost5
cost_of costs name n = cost_at (costs name) n

-- the sum of charges, in each dimension a whole number without an end
abbrev pub cost_sum : Costs → List Charge → Cost5
cost_sum costs [] = zero_cost
cost_sum costs (c ∷ cs) = plus (cost_of costs c.0 c.1) (cost_sum costs cs)

-- what an evaluation costs
unfoldable pub cost : {A : Type 0} → Costs → Answer A → Cost5
cost costs a = cost_sum costs (charges_of a.log)

-- what charges leave of a limit; or the first sum that is above it, with what was spent before
pub data Paid : Type 0 where
  Within : Purse → Paid
  Past : Over → Purse → Paid

abbrev pub paid_by : Purse → Result Purse Over → Paid
paid_by before (Ok after) = Within after
paid_by before (Err over) = Past over before

-- the charges of a log one after another, up to the first whose sum is above the limit
unfoldable pub pay : Costs → Paid → List Note → Paid
pay costs (Past over p) log = Past over p
pay costs (Within p) [] = Within p
pay costs (Within p) (Charged name n ∷ log) = pay costs (paid_by p (spend p (cost_of costs name n))) log
pay costs (Within p) (Ended span v ∷ log) = pay costs (Within p) log

-- an answer under a limit; Lost is a wrong one, or one whose depth isn't enough
pub data Limited (A : Type 0) : Type 0 where
  Gave : A → State → Purse → Limited A
  Threw : Val → State → Purse → Limited A
  AbortedBy : Cause → Purse → Limited A
  Passed : Over → Purse → Limited A
  Lost : Purse → Limited A

abbrev pub limit_on : {A : Type 0} → Paid → Outcome A → State → Limited A
limit_on (Past over p) o s = Passed over p
limit_on (Within p) (Given a) s = Gave a s p
limit_on (Within p) (Thrown v) s = Threw v s p
limit_on (Within p) (Aborted why) s = AbortedBy why p
limit_on (Within p) Wrong s = Lost p
limit_on (Within p) Deeper s = Lost p

-- the outcome under a limit: where the sum of some first charges is above it, the first such sum; and else the outcome itself
unfoldable pub limited : {A : Type 0} → Costs → Purse → Answer A → Limited A
limited costs p a = limit_on (pay costs (Within p) a.log) a.outcome a.state

-- goes on where a value was given
abbrev pub after : {A B : Type 0} → Limited A → (A → State → Purse → Limited B) → Limited B
after (Gave a s p) go_on = go_on a s p
after (Threw v s p) go_on = Threw v s p
after (AbortedBy why p) go_on = AbortedBy why p
after (Passed over p) go_on = Passed over p
after (Lost p) go_on = Lost p

-- an early return taken for a return
abbrev pub returned : Limited Val → Limited Val
returned (Gave v s p) = Gave v s p
returned (Threw v s p) = Gave v s p
returned (AbortedBy why p) = AbortedBy why p
returned (Passed over p) = Passed over p
returned (Lost p) = Lost p
