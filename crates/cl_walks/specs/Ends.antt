-- The result of a walk, as an end of its answer.
use Rattle.std.specs.Prelude.{◌≡◌, Result, Ok, Err}
use Rattle.cl_events.specs.State.{State}
use Rattle.cl_meaning.specs.Answers.{Cause, ByArithmetic, ByPanic, BySupply}
use Rattle.cl_walks.specs.declared.stop.Stop.{Stop}
use Rattle.cl_walks.specs.declared.stop.Stop.TheVariants.{Thrown, Aborted, CostLimit, Stuck, NoMemory}
use Rattle.cl_walks.specs.declared.stop.Why.{Why}
use Rattle.cl_walks.specs.declared.stop.Why.TheVariants as why
use Rattle.cl_walks.specs.Walked.{Book, Walked, Gave, Threw, AbortedBy, Passed, Lost}

abbrev pub cause : Why → Cause
cause (why.Arithmetic refusal) = ByArithmetic refusal
cause why.Panic = ByPanic
cause why.Supply = BySupply

-- why no value is given; after want of memory nothing is said
abbrev pub Stops : {K A : Type 0} → Walked K A → Stop → Book K → State → Type 0
Stops w (Thrown v) b s = w ≡ Threw v s b
Stops w (Aborted y) b s = w ≡ AbortedBy (cause y) b
Stops w (CostLimit over) b s = w ≡ Passed over b
Stops w Stuck b s = w ≡ Lost b
Stops w NoMemory b s = Unit {0}

-- a value is given, or why none is
abbrev pub Ends : {K A : Type 0} → Walked K A → Result A Stop → Book K → State → Type 0
Ends w (Ok v) b s = w ≡ Gave v s b
Ends w (Err stop) b s = Stops w stop b s
