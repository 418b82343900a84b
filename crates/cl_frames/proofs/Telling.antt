-- What a walk shows to those who see its outcome alone, and to those who see what was told.
use Rattle.std.proofs.Common.{◌≡◌, ◌≤◌, List, [], ◌∷◌, ◌++◌, length, Option, Some, None, Result, Ok, Err, refl, sym, ap, ◌∙◌, subst, arith}
use Rattle.cl_types.specs.declared.fault.Fault.{Fault}
use Rattle.cl_shapes.specs.Limits.{Purse}
use Rattle.cl_sexpr.specs.declared.sexpr.Span.{Span}
use Rattle.cl_values.specs.Tree.{Tree as Val}
use Rattle.cl_events.specs.State.{State}
use Rattle.cl_code.specs.Watched.{GrewBy}
use Rattle.cl_meaning.specs.Answers.{Answer}
use Rattle.cl_meaning.specs.Limits.{Costs, Limited, limited}
use Rattle.cl_meaning.specs.Limits as plain
use Rattle.cl_meaning.specs.Trace.{trace_of}
use Rattle.cl_frames.specs.declared.stop.Stop.{Stop}
use Rattle.cl_frames.specs.declared.stop.Stop.TheVariants.{Thrown, Arithmetic, Panic, Supply, CostLimit, Stuck, NoMemory}
use Rattle.cl_frames.specs.declared.abort.Abort.{Abort}
use Rattle.cl_frames.specs.Aborts.{fault_of}
use Rattle.cl_frames.specs.Runs as runs
use Rattle.cl_frames.specs.Watching.{Seen, Watched, Gave, watched_as, watched, outcome_of, seen_of, told, amount, trace, Stops, Ends, GrewByStart, TellsOfStop}
use Rattle.cl_frames.proofs.WatchLaws.{all_seen}

-- ---- the outcome alone

outcome_as : {A : Type 0} (l : Limited A) (k : Seen) → outcome_of (watched_as l k) ≡ l
outcome_as (plain.Gave v s p) k = refl
outcome_as (plain.Threw v s p) k = refl
outcome_as (plain.AbortedBy why p) k = refl
outcome_as (plain.Passed over p) k = refl
outcome_as (plain.Lost p) k = refl

outcome_is : {A : Type 0} (costs : Costs) (p : Purse) (k : Seen) (a : Answer A) → outcome_of (watched costs p k a) ≡ limited costs p a
unfolding watched
outcome_is costs p k a = outcome_as (limited costs p a) (told k (trace_of costs p a))

outcome_ends : {A : Type 0} (w : Watched A) (r : Result A Stop) (q : Purse) (k : Seen) (s : State) → Ends w r q k s → runs.Ends (outcome_of w) r q s
outcome_ends w (Ok v) q k s h = ap outcome_of h
outcome_ends w (Err (Thrown v)) q k s h = ap outcome_of h
outcome_ends w (Err (Arithmetic why)) q k s h = ap outcome_of h
outcome_ends w (Err Panic) q k s h = ap outcome_of h
outcome_ends w (Err Supply) q k s h = ap outcome_of h
outcome_ends w (Err (CostLimit over)) q k s h = ap outcome_of h
outcome_ends w (Err Stuck) q k s h = ap outcome_of h
outcome_ends w (Err NoMemory) q k s h = tt

-- a walk is a run
pub run_ends : {A : Type 0} (costs : Costs) (p q : Purse) (j k : Seen) (a : Answer A) (r : Result A Stop) (s : State) → Ends (watched costs p j a) r q k s → runs.Ends (limited costs p a) r q s
run_ends costs p q j k a r s h = subst (λ l. runs.Ends l r q s) (outcome_is costs p j a) (outcome_ends (watched costs p j a) r q k s h)

-- ---- what was told

all_grew : (k now : Seen) (costs : Costs) (p : Purse) {A : Type 0} (a : Answer A) → told k (trace_of costs p a) ≡ now → GrewBy k now (trace costs p a)
all_grew None now costs p a h = sym h
all_grew (Some xs) now costs p a h = sym h

-- of two starts of a list, the longer goes on from the shorter
longer : {A : Type 0} (xs ts ys more : List A) → length xs ≤ length ys → xs ++ ts ≡ ys ++ more → (start : List A) × (ys ≡ xs ++ start) × (ts ≡ start ++ more)
longer [] ts ys more h e = (ys, refl, e)
longer (x ∷ xs) ts [] more h e = absurd (omega (arith, h))
longer (x ∷ xs) ts (y ∷ ys) more h e =
    let same : x ≡ y = cc in
    let rest : xs ++ ts ≡ ys ++ more = cc in
    let next = longer xs ts ys more (omega (arith, h)) rest in
    (next.0, ap (λ l. y ∷ l) next.1 ∙ ap (λ z. z ∷ xs ++ next.0) (sym same), next.2)

some_same : {A : Type 0} (xs ys : List A) → Some xs ≡ Some ys → xs ≡ ys
some_same xs ys h = cc

start_grew : (k now : Seen) (ts : List (Span × Val)) (all : Seen) (more : List (Span × Val)) → amount k ≤ amount now → GrewBy k all ts → GrewBy now all more → GrewByStart k now ts
start_grew None None ts all more few h g = ([], ts, refl, refl)
start_grew None (Some ys) ts all more few h g = absurd (absurd_some ys more (sym h ∙ g))
  where
    absurd_some : (us vs : List (Span × Val)) → None ≡ Some (us ++ vs) → ⊥
    absurd_some us vs e = absurd cc
start_grew (Some xs) None ts all more few h g = absurd (absurd_none xs ts (sym g ∙ h))
  where
    absurd_none : (us vs : List (Span × Val)) → None ≡ Some (us ++ vs) → ⊥
    absurd_none us vs e = absurd cc
start_grew (Some xs) (Some ys) ts all more few h g =
    let found = longer xs ts ys more few (some_same (xs ++ ts) (ys ++ more) (sym h ∙ g)) in
    (found.0, more, found.2, ap Some found.1)

-- what is told before a call aborts, where it does
abbrev TellsAs : Seen → Seen → List (Span × Val) → Option (Fault Abort) → Type 0
TellsAs j k all None = Unit {0}
TellsAs j k all (Some fault) = TellsOfStop j k all fault

tells_as : {A : Type 0} (costs : Costs) (p q : Purse) (j k : Seen) (a : Answer A) (e : Stop) (s : State) → amount j ≤ amount k → Stops (watched costs p j a) e q k s → TellsAs j k (trace costs p a) (fault_of e)
tells_as costs p q j k a (Thrown v) s few h = all_grew j k costs p a (sym (all_seen costs p j a) ∙ ap seen_of h)
tells_as costs p q j k a (Arithmetic why) s few h = all_grew j k costs p a (sym (all_seen costs p j a) ∙ ap seen_of h)
tells_as costs p q j k a Panic s few h = all_grew j k costs p a (sym (all_seen costs p j a) ∙ ap seen_of h)
tells_as costs p q j k a Supply s few h = all_grew j k costs p a (sym (all_seen costs p j a) ∙ ap seen_of h)
tells_as costs p q j k a (CostLimit over) s few h = all_grew j k costs p a (sym (all_seen costs p j a) ∙ ap seen_of h)
tells_as costs p q j k a Stuck s few h = tt
tells_as costs p q j k a NoMemory s few h =
    start_grew j k (trace costs p a) (seen_of (watched costs p j a)) h.0 few (all_grew j (seen_of (watched costs p j a)) costs p a (sym (all_seen costs p j a))) h.1

-- a walk that stops tells the trace, or its start
pub tells_stopped : {A : Type 0} (costs : Costs) (p q : Purse) (j k : Seen) (a : Answer A) (e : Stop) (f : Fault Abort) (s : State) → fault_of e ≡ Some f → amount j ≤ amount k → Stops (watched costs p j a) e q k s → TellsOfStop j k (trace costs p a) f
tells_stopped costs p q j k a e f s h few stops = subst (TellsAs j k (trace costs p a)) h (tells_as costs p q j k a e s few stops)

-- a walk that gives a value tells the trace
pub tells_given : {A : Type 0} (costs : Costs) (p q : Purse) (j k : Seen) (a : Answer A) (v : A) (s : State) → watched costs p j a ≡ Gave v s q k → GrewBy j k (trace costs p a)
tells_given costs p q j k a v s h = all_grew j k costs p a (sym (all_seen costs p j a) ∙ ap seen_of h)
