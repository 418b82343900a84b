-- A limit that is no less than a bound stops nothing.
use Rattle.std.proofs.Common.{subst}
use Rattle.cl_arith.specs.declared.ArithRefusal.TheVariants as arith
use Rattle.cl_shapes.specs.declared.cost.Cost5.{Cost5}
use Rattle.cl_shapes.specs.Costs.{plus, zero_cost, IsAtMost}
use Rattle.cl_shapes.specs.Limits.{Purse}
use Rattle.cl_events.specs.State.{State}
use Rattle.cl_meaning.specs.Answers.{Outcome, Given, Thrown, Aborted, Wrong, Deeper, Cause, ByArithmetic, ByPanic, BySupply, Answer}
use Rattle.cl_meaning.specs.Limits.{Costs, cost, Within, Limited, Gave, Threw, AbortedBy, Passed, Lost, limit_on, limited}
use Rattle.cl_expression_sound.proofs.Costs.{at_most, turned, and_nothing}
use Rattle.cl_contract_sound.proofs.UnderLimits.{enough}
use Rattle.cl_tx.specs.declared.outcome.Outcome.TheVariants as outcome
use Rattle.cl_tx.specs.Nodes.{stop_of}
use Rattle.cl_node_sound.specs.Told.{IsStopped}

-- a run went past its limit
abbrev pub IsPassed : {A : Type 0} → Limited A → Type 0
IsPassed (Gave a s p) = ⊥
IsPassed (Threw v s p) = ⊥
IsPassed (AbortedBy why p) = ⊥
IsPassed (Passed over p) = Unit {0}
IsPassed (Lost p) = ⊥

within_passes_not : {A : Type 0} (p : Purse) (o : Outcome A) (s : State) → IsPassed (limit_on (Within p) o s) → ⊥
within_passes_not p (Given a) s h = h
within_passes_not p (Thrown v) s h = h
within_passes_not p (Aborted why) s h = h
within_passes_not p Wrong s h = h
within_passes_not p Deeper s h = h

pub passes_not : {A : Type 0} (costs : Costs) (bound limit : Cost5) (a : Answer A) → IsAtMost (cost costs a) bound → IsAtMost bound limit → IsPassed (limited costs (record { limit = limit; spent = zero_cost }) a) → ⊥
passes_not costs bound limit a within low passed =
    let p : Purse = record { limit = limit; spent = zero_cost } in
    let all : IsAtMost (plus zero_cost bound) limit = at_most (plus zero_cost bound) (plus bound zero_cost) limit (turned zero_cost bound) (at_most (plus bound zero_cost) bound limit (and_nothing bound) low) in
    within_passes_not (record { limit = limit; spent = plus zero_cost (cost costs a) }) a.outcome a.state (subst (λ l. IsPassed l) (enough costs bound a within p all) passed)

-- no abort of the language is a stop by the limit
pub aborts_not_stopped : (why : Cause) → IsStopped (outcome.Aborted (stop_of why)) → ⊥
aborts_not_stopped (ByArithmetic arith.Overflow) h = h
aborts_not_stopped (ByArithmetic arith.Underflow) h = h
aborts_not_stopped (ByArithmetic arith.DivideByZero) h = h
aborts_not_stopped (ByArithmetic arith.NegativeArgument) h = h
aborts_not_stopped ByPanic h = h
aborts_not_stopped BySupply h = h
