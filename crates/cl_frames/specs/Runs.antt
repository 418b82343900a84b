-- What runs show of the meaning under its limit.
use Rattle.std.specs.Prelude.{◌≡◌, ℕ, Bool, true, false, List, ◌∷◌, Option, Some, None, Result, Ok, Err}
use Rattle.std.proofs.Common.{Vec, Global}
use Rattle.cl_types.specs.declared.sized.Access.{Access}
use Rattle.cl_types.specs.declared.sized.Access.TheVariants.{Public}
use Rattle.cl_shapes.specs.Limits.{Purse, spend}
use Rattle.cl_shapes.specs.declared.name.CostName.{CostName}
use Rattle.cl_values.specs.Tree.{Tree as Val, BoolV, SomeV, NoneV, ResponseV}
use Rattle.cl_events.specs.State.{State}
use Rattle.cl_state.specs.Stack.{Stack, rest_of}
use Rattle.cl_meaning.specs.Answers.{Outcome, Given, Aborted, Wrong, ByArithmetic, ByPanic, BySupply, Answer}
use Rattle.cl_meaning.specs.Calls.{closing}
use Rattle.cl_meaning.specs.Limits.{Costs, cost_of, Limited, Gave, Threw, AbortedBy, Passed, Lost, limited}
use Rattle.cl_frames.specs.declared.stop.Stop.{Stop}
use Rattle.cl_frames.specs.declared.stop.Stop.TheVariants.{Thrown, Arithmetic, Panic, Supply, CostLimit, Stuck, NoMemory}
use Rattle.cl_frames.specs.declared.way.Way.{Way}
use Rattle.cl_frames.specs.declared.way.Way.TheVariants.{Good, Bad, Neither}
use Rattle.cl_frames.specs.declared.context.Context.{Context}
use Rattle.cl_frames.specs.Seen.{costs_of}

-- why no value is given, with what is spent then, and the state that is left where a value is thrown
abbrev pub Stops : {A : Type 0} → Limited A → Stop → Purse → State → Type 0
Stops l (Thrown v) q s = l ≡ Threw v s q
Stops l (Arithmetic why) q s = l ≡ AbortedBy (ByArithmetic why) q
Stops l Panic q s = l ≡ AbortedBy ByPanic q
Stops l Supply q s = l ≡ AbortedBy BySupply q
Stops l (CostLimit over) q s = l ≡ Passed over q
Stops l Stuck q s = l ≡ Lost q
Stops l NoMemory q s = Unit {0}

-- a value is given, with what is spent then and the state that is left; or why none is given
abbrev pub Ends : {A : Type 0} → Limited A → Result A Stop → Purse → State → Type 0
Ends l (Ok v) q s = l ≡ Gave v s q
Ends l (Err stop) q s = Stops l stop q s

-- what a run in a context shows of what an answer means under the limit
abbrev pub Runs : {A : Type 0} → Context → Purse → Answer A → Result A Stop → Purse → State → Type 0
Runs c p a r q s = Ends (limited (costs_of c) p a) r q s

-- it ends so, with these states below the top
pub record Ended {A : Type 0} (l : Limited A) (result : Result A Stop) (q : Purse) (now : Stack) (rest : List State) : Type 0 where
  pub answer : Ends l result q now.top
  pub below : now.below ≡ rest

-- the values in a vector
abbrev pub items_in : {A : Type 0} → Result (Vec A Global) Stop → Result (List A) Stop
items_in (Ok v) = Ok v.items
items_in (Err stop) = Err stop

-- a charge is spent, or the sum is above the limit and nothing is
abbrev pub Pays : Costs → Purse → CostName → ℕ → Result (Unit {0}) Stop → Purse → Type 0
Pays costs p name n (Ok u) q = spend p (cost_of costs name n) ≡ Ok q
Pays costs p name n (Err (CostLimit over)) q = (spend p (cost_of costs name n) ≡ Err over) × (q ≡ p)
Pays costs p name n (Err stop) q = ⊥

-- what a native is of values
abbrev pub Computes : Outcome Val → Result Val Stop → Type 0
Computes o (Ok v) = o ≡ Given v
Computes o (Err (Arithmetic why)) = o ≡ Aborted (ByArithmetic why)
Computes o (Err Panic) = o ≡ Aborted ByPanic
Computes o (Err Stuck) = o ≡ Wrong
Computes o (Err NoMemory) = Unit {0}
Computes o (Err stop) = ⊥

abbrev pub is_public : Access → Bool
is_public Public = true
is_public access = false

-- whether a value is ok or err
abbrev pub response_of : Val → Option Bool
response_of (ResponseV good v) = Some good
response_of v = None

-- the layer of a public function is taken off, and what its body did stands or not
abbrev pub Closes : Result Val Stop → Stack → Result Val Stop → Stack → Type 0
Closes (Ok v) old result now =
    (costs : Costs) (p : Purse) (before : State) (rest : List State) → old.below ≡ before ∷ rest → Ended (limited costs p (closing Public before v old.top)) result p now rest
Closes (Err stop) old result now = (result ≡ Err stop) × (now.below ≡ rest_of old.below)

-- an early return taken for a return
abbrev pub returned_result : Result Val Stop → Result Val Stop
returned_result (Err (Thrown v)) = Ok v
returned_result r = r

-- whether a truth value is given
abbrev pub truthful : Limited Val → Limited Bool
truthful (Gave (BoolV b) s p) = Gave b s p
truthful (Gave v s p) = Lost p
truthful (Threw v s p) = Threw v s p
truthful (AbortedBy why p) = AbortedBy why p
truthful (Passed over p) = Passed over p
truthful (Lost p) = Lost p

-- how an optional or a response is: some or ok; none or err; neither of the two
abbrev pub way_of : Val → Way
way_of (SomeV v) = Good
way_of NoneV = Bad
way_of (ResponseV true v) = Good
way_of (ResponseV false v) = Bad
way_of v = Neither

-- whether a response is err
abbrev pub err_way_of : Val → Way
err_way_of (ResponseV false v) = Good
err_way_of (ResponseV true v) = Bad
err_way_of v = Neither

-- whether an optional is some
abbrev pub optional_way_of : Val → Way
optional_way_of (SomeV v) = Good
optional_way_of NoneV = Bad
optional_way_of v = Neither

-- whether a response is ok
abbrev pub response_way_of : Val → Way
response_way_of (ResponseV true v) = Good
response_way_of (ResponseV false v) = Bad
response_way_of v = Neither

-- what is in an optional or a response
abbrev pub content : Val → Val
content (SomeV v) = v
content (ResponseV good v) = v
content v = v
