-- What walks show of the meaning under its limit, and what is seen of it where somebody looks on.
use Rattle.std.specs.Prelude.{◌≡◌, ℕ, Bool, List, [], ◌++◌, map, length, Option, Some, None, Result, Ok, Err}
use Rattle.std.proofs.Common.{Vec, Global}
use Rattle.cl_types.specs.Types.{PlainType}
use Rattle.cl_shapes.specs.Limits.{Purse}
use Rattle.cl_shapes.specs.declared.limit.Over.{Over}
use Rattle.cl_sexpr.specs.declared.sexpr.Span.{Span}
use Rattle.cl_sexpr.specs.Tree.{Tree}
use Rattle.cl_values.specs.Tree.{Tree as Val, BoolV}
use Rattle.cl_events.specs.State.{State}
use Rattle.cl_code.specs.Watched.{GrewBy}
use Rattle.cl_meaning.specs.Answers.{Cause, ByArithmetic, ByPanic, BySupply, Answer}
use Rattle.cl_meaning.specs.Scope.{BoundValues, Scope, Take}
use Rattle.cl_meaning.specs.Control.{let_in}
use Rattle.cl_meaning.specs.Calls.{bound_to}
use Rattle.cl_meaning.specs.Limits.{Costs, Limited, limited}
use Rattle.cl_meaning.specs.Limits as plain
use Rattle.cl_meaning.specs.Trace.{Claim, trace_of}
use Rattle.cl_frames.specs.declared.stop.Stop.{Stop}
use Rattle.cl_frames.specs.declared.stop.Stop.TheVariants.{Thrown, Arithmetic, Panic, Supply, CostLimit, Stuck, NoMemory}
use Rattle.cl_frames.specs.declared.context.Context.{Context}
use Rattle.cl_types.specs.declared.fault.Fault.{Fault}
use Rattle.cl_types.specs.declared.fault.Fault.TheVariants.{Refused, NoMemory as OutOfMemory}
use Rattle.cl_frames.specs.Named.{paired}
use Rattle.cl_frames.specs.Seen.{costs_of}

-- what was seen so far, where that is told
abbrev pub Seen : Type 0
Seen = Option (List (Span × Val))

abbrev pub pair_of : Claim → Span × Val
pair_of c = (c.span, c.value)

-- what is seen after these nodes gave a value
abbrev pub told : Seen → List Claim → Seen
told None cs = None
told (Some xs) cs = Some (xs ++ map pair_of cs)

-- how much was seen
abbrev pub amount : Seen → ℕ
amount None = 0
amount (Some xs) = length xs

-- an answer under a limit, with all that is seen of it
pub data Watched (A : Type 0) : Type 0 where
  Gave : A → State → Purse → Seen → Watched A
  Threw : Val → State → Purse → Seen → Watched A
  AbortedBy : Cause → Purse → Seen → Watched A
  Passed : Over → Purse → Seen → Watched A
  Lost : Purse → Seen → Watched A

abbrev pub watched_as : {A : Type 0} → Limited A → Seen → Watched A
watched_as (plain.Gave v s p) k = Gave v s p k
watched_as (plain.Threw v s p) k = Threw v s p k
watched_as (plain.AbortedBy why p) k = AbortedBy why p k
watched_as (plain.Passed over p) k = Passed over p k
watched_as (plain.Lost p) k = Lost p k

-- the outcome under a limit, where so much was seen before
unfoldable pub watched : {A : Type 0} → Costs → Purse → Seen → Answer A → Watched A
watched costs p k a = watched_as (limited costs p a) (told k (trace_of costs p a))

abbrev pub seen_of : {A : Type 0} → Watched A → Seen
seen_of (Gave v s p k) = k
seen_of (Threw v s p k) = k
seen_of (AbortedBy why p k) = k
seen_of (Passed over p k) = k
seen_of (Lost p k) = k

-- goes on where a value was given
abbrev pub after : {A B : Type 0} → Watched A → (A → State → Purse → Seen → Watched B) → Watched B
after (Gave a s p k) go_on = go_on a s p k
after (Threw v s p k) go_on = Threw v s p k
after (AbortedBy why p k) go_on = AbortedBy why p k
after (Passed over p k) go_on = Passed over p k
after (Lost p k) go_on = Lost p k

-- an early return taken for a return
abbrev pub returned : Watched Val → Watched Val
returned (Gave v s p k) = Gave v s p k
returned (Threw v s p k) = Gave v s p k
returned (AbortedBy why p k) = AbortedBy why p k
returned (Passed over p k) = Passed over p k
returned (Lost p k) = Lost p k

-- this was seen, and maybe more
abbrev pub IsStart : Seen → Seen → Type 0
IsStart k all = (more : List (Span × Val)) × GrewBy k all more

-- why no value is given, with what is spent and seen then, and the state that is left where a value is thrown; after want of
-- memory, what is seen is the start of all
abbrev pub Stops : {A : Type 0} → Watched A → Stop → Purse → Seen → State → Type 0
Stops w (Thrown v) q k s = w ≡ Threw v s q k
Stops w (Arithmetic why) q k s = w ≡ AbortedBy (ByArithmetic why) q k
Stops w Panic q k s = w ≡ AbortedBy ByPanic q k
Stops w Supply q k s = w ≡ AbortedBy BySupply q k
Stops w (CostLimit over) q k s = w ≡ Passed over q k
Stops w Stuck q k s = w ≡ Lost q k
Stops w NoMemory q k s = IsStart k (seen_of w)

-- a value is given, with what is spent and seen then and the state that is left; or why none is given
abbrev pub Ends : {A : Type 0} → Watched A → Result A Stop → Purse → Seen → State → Type 0
Ends w (Ok v) q k s = w ≡ Gave v s q k
Ends w (Err stop) q k s = Stops w stop q k s

-- what a walk in a context shows of what an answer means under the limit
abbrev pub Walks : {A : Type 0} → Context → Purse → Seen → Answer A → Result A Stop → Purse → Seen → State → Type 0
Walks c p j a r q k s = Ends (watched (costs_of c) p j a) r q k s

-- whatever follows, on whatever state: parameters are bound to values and it goes on with them, or it stops there
abbrev pub Binds : Costs → Purse → List (List ℕ × PlainType) → List Val → Result (Unit {0}) Stop → Purse → Type 0
Binds costs p params values (Ok u) q =
    (body : BoundValues → State → Answer Val) (s : State) (k : Seen) → watched costs p k (bound_to body [] params values s) ≡ watched costs q k (body (paired params values) s)
Binds costs p params values (Err stop) q =
    (body : BoundValues → State → Answer Val) (s : State) (k : Seen) → Stops (watched costs p k (bound_to body [] params values s)) stop q k s

-- names are bound, and what is left of let goes on with them; or it stops there
abbrev pub BindsAll : Costs → Take → List Tree → (BoundValues → Scope) → Watched Val → Result (Vec (List ℕ × Val) Global) Stop → Purse → Seen → State → Type 0
BindsAll costs take body S w (Ok own) q k s = w ≡ watched costs q k (let_in take body (S own.items) [] s)
BindsAll costs take body S w (Err stop) q k s = Stops w stop q k s

-- whether a truth value is given
abbrev pub truthful : Watched Val → Watched Bool
truthful (Gave (BoolV b) s p k) = Gave b s p k
truthful (Gave v s p k) = Lost p k
truthful (Threw v s p k) = Threw v s p k
truthful (AbortedBy why p k) = AbortedBy why p k
truthful (Passed over p k) = Passed over p k
truthful (Lost p k) = Lost p k

-- the outcome without what was seen
abbrev pub outcome_of : {A : Type 0} → Watched A → Limited A
outcome_of (Gave v s p k) = plain.Gave v s p
outcome_of (Threw v s p k) = plain.Threw v s p
outcome_of (AbortedBy why p k) = plain.AbortedBy why p
outcome_of (Passed over p k) = plain.Passed over p
outcome_of (Lost p k) = plain.Lost p

-- what is seen of an answer under a limit
abbrev pub trace : {A : Type 0} → Costs → Purse → Answer A → List (Span × Val)
trace costs p a = map pair_of (trace_of costs p a)

-- what was seen grew by the start of these
abbrev pub GrewByStart : Seen → Seen → List (Span × Val) → Type 0
GrewByStart k now all = (start : List (Span × Val)) × (rest : List (Span × Val)) × (all ≡ start ++ rest) × GrewBy k now start

-- what is told before a call stops: these; or, after want of memory, the start of them
abbrev pub TellsOfStop : {E : Type 0} → Seen → Seen → List (Span × Val) → Fault E → Type 0
TellsOfStop k now all OutOfMemory = GrewByStart k now all
TellsOfStop k now all (Refused e) = GrewBy k now all

-- what was seen grew by these; or, after want of memory, by the start of them
abbrev pub Tells : {A E : Type 0} → Seen → Seen → List (Span × Val) → Result A (Fault E) → Type 0
Tells k now all (Ok v) = GrewBy k now all
Tells k now all (Err fault) = TellsOfStop k now all fault
