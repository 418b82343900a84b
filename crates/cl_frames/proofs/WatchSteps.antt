-- How a walk goes along the parts of an answer.
use Rattle.std.proofs.Common.{◌≡◌, ℕ, [], ◌∷◌, ◌++◌, Option, Some, None, Result, Ok, Err, sym, ap, ◌∙◌, subst}
use Rattle.cl_shapes.specs.Limits.{Purse, spend}
use Rattle.cl_shapes.specs.declared.name.CostName.{CostName}
use Rattle.cl_sexpr.specs.declared.sexpr.Span.{Span}
use Rattle.cl_values.specs.Tree.{Tree as Val}
use Rattle.cl_events.specs.State.{State}
use Rattle.cl_code.specs.Watched.{GrewBy}
use Rattle.cl_meaning.specs.Answers.{Given, Wrong, Answer, stop, charged, and_then, ending, with_known}
use Rattle.cl_meaning.specs.Limits.{Costs, cost_of, Limited, limited}
use Rattle.cl_meaning.specs.Limits as plain
use Rattle.cl_meaning.specs.Trace.{trace_of}
use Rattle.cl_frames.specs.declared.stop.Stop.{Stop}
use Rattle.cl_frames.specs.declared.stop.Stop.TheVariants.{Thrown, Arithmetic, Panic, Supply, CostLimit, Stuck, NoMemory}
use Rattle.cl_frames.specs.Runs.{Pays}
use Rattle.cl_frames.specs.Runs as runs
use Rattle.cl_frames.specs.Watching.{Seen, Watched, Gave, Passed, Lost, watched_as, watched, seen_of, after, told, IsStart, Stops, Ends}
use Rattle.cl_frames.proofs.Steps.{Handed}
use Rattle.cl_frames.proofs.WatchLaws.{watched-then, watched-stop, watched-ending, charge_within, charge_over, noting, start_here, start_then, told_on, seen_as, starts, on_after, unseen}

pub stops_eq : {A : Type 0} (w x : Watched A) (e : Stop) (q : Purse) (k : Seen) (s : State) → w ≡ x → Stops x e q k s → Stops w e q k s
stops_eq w x e q k s h stops = subst (λ y. Stops y e q k s) (sym h) stops

-- what goes on sees more than was seen
abbrev pub SeesOn : {A B : Type 0} → (A → State → Purse → Seen → Watched B) → Type 0
SeesOn go_on = (v : _) (s : State) (q : Purse) (k : Seen) → IsStart k (seen_of (go_on v s q k))

-- what stops the first stops the whole
pub stops_after : {A B : Type 0} (w : Watched A) (go_on : A → State → Purse → Seen → Watched B) (e : Stop) (q : Purse) (k : Seen) (s : State) → SeesOn go_on → Stops w e q k s → Stops (after w go_on) e q k s
stops_after w go_on (Thrown v) q k s on h = ap (λ x. after x go_on) h
stops_after w go_on (Arithmetic why) q k s on h = ap (λ x. after x go_on) h
stops_after w go_on Panic q k s on h = ap (λ x. after x go_on) h
stops_after w go_on Supply q k s on h = ap (λ x. after x go_on) h
stops_after w go_on (CostLimit over) q k s on h = ap (λ x. after x go_on) h
stops_after w go_on Stuck q k s on h = ap (λ x. after x go_on) h
stops_after w go_on NoMemory q k s on h = start_then k (seen_of w) (seen_of (after w go_on)) h (on_after w go_on on)

pub stops_then : {A B : Type 0} (costs : Costs) (p q : Purse) (j k : Seen) (a : Answer A) (go_on : A → State → Answer B) (e : Stop) (t : State) → Stops (watched costs p j a) e q k t → Stops (watched costs p j (and_then a go_on)) e q k t
stops_then costs p q j k a go_on e t h =
    stops_eq (watched costs p j (and_then a go_on)) (after (watched costs p j a) (λ v s r i. watched costs r i (go_on v s))) e q k t (watched-then costs p j a go_on)
    (stops_after (watched costs p j a) (λ v s r i. watched costs r i (go_on v s)) e q k t (λ v s r i. starts costs r i (go_on v s)) h)

-- a charge that isn't spent
pub charge_stops : {A : Type 0} (costs : Costs) (p q : Purse) (k : Seen) (name : CostName) (n : ℕ) (a : Answer A) (e : Stop) (s : State) → Pays costs p name n (Err e) q → Stops (watched costs p k (charged name n a)) e q k s
charge_stops costs p q k name n a (CostLimit over) s h = charge_over costs p k over name n a h.0 ∙ ap (λ r. Passed over r k) (sym h.1)
charge_stops costs p q k name n a (Thrown v) s h = absurd h
charge_stops costs p q k name n a (Arithmetic why) s h = absurd h
charge_stops costs p q k name n a Panic s h = absurd h
charge_stops costs p q k name n a Supply s h = absurd h
charge_stops costs p q k name n a Stuck s h = absurd h
charge_stops costs p q k name n a NoMemory s h = absurd h

-- what `?` hands on
pub hands_on : {A : Type 0} (w : Watched A) (r : Result A Stop) (e : Stop) (q : Purse) (k : Seen) (s : State) → Handed r e → Stops w e q k s → Ends w r q k s
hands_on w r e q k s p h = subst (λ x. Ends w x q k s) (sym (p.1 ∙ ap Err p.2)) h

-- a charge that isn't spent ends a walk
pub pay_fails : {A : Type 0} (w : Watched A) (r : Result A Stop) (e : Stop) (costs : Costs) (p q : Purse) (k : Seen) (s : State) (name : CostName) (n : ℕ) (a : Answer A) → Handed r e → w ≡ watched costs p k (charged name n a) → Pays costs p name n (Err e) q → Ends w r q k s
pay_fails w r e costs p q k s name n a h same pays = hands_on w r e q k s h (stops_eq w (watched costs p k (charged name n a)) e q k s same (charge_stops costs p q k name n a e s pays))

-- the same, the number worked out by the code
pub pay_fails_at : {A : Type 0} (w : Watched A) (r : Result A Stop) (e : Stop) (costs : Costs) (p q : Purse) (k : Seen) (s : State) (name : CostName) (m n : ℕ) (a : Answer A) → Handed r e → m ≡ n → w ≡ watched costs p k (charged name n a) → Pays costs p name m (Err e) q → Ends w r q k s
pay_fails_at w r e costs p q k s name m n a h number same pays = pay_fails w r e costs p q k s name n a h same (subst (λ i. Pays costs p name i (Err e) q) number pays)

-- a part that stops ends a walk
pub part_fails : {A B : Type 0} (w : Watched B) (r : Result B Stop) (e : Stop) (costs : Costs) (p q : Purse) (j k : Seen) (s : State) (a : Answer A) (go_on : A → State → Answer B) → Handed r e → w ≡ watched costs p j (and_then a go_on) → Stops (watched costs p j a) e q k s → Ends w r q k s
part_fails w r e costs p q j k s a go_on h same stops = hands_on w r e q k s h (stops_eq w (watched costs p j (and_then a go_on)) e q k s same (stops_then costs p q j k a go_on e s stops))

-- memory runs out where the start of all was seen
pub memory_ends : {A : Type 0} (w x : Watched A) (r : Result A Stop) (q : Purse) (k : Seen) (s : State) → Handed r NoMemory → w ≡ x → IsStart k (seen_of x) → Ends w r q k s
memory_ends w x r q k s h same start = hands_on w r NoMemory q k s h (stops_eq w x NoMemory q k s same start)

-- memory runs out where nothing more was seen
pub memory_fails : {A : Type 0} (w : Watched A) (r : Result A Stop) (costs : Costs) (p q : Purse) (k : Seen) (s : State) (a : Answer A) → Handed r NoMemory → w ≡ watched costs p k a → Ends w r q k s
memory_fails w r costs p q k s a h same = memory_ends w (watched costs p k a) r q k s h same (starts costs p k a)

pub ends_so : {A : Type 0} (w x : Watched A) (r : Result A Stop) (q : Purse) (k : Seen) (s : State) → w ≡ x → Ends x r q k s → Ends w r q k s
ends_so w x r q k s h e = subst (λ y. Ends y r q k s) (sym h) e

-- a value is given where the code gives one that is equal
pub gives : {A : Type 0} (costs : Costs) (p : Purse) (k : Seen) (v w : A) (s t : State) → w ≡ v → t ≡ s → watched costs p k (stop (Given v) s) ≡ Gave w t p k
gives costs p k v w s t h same = watched-stop costs p k (Given v) s ∙ ap (λ x. Gave x s p k) (sym h) ∙ ap (λ x. Gave w x p k) (sym same)

-- a charge whose number the code has worked out
pub charge_spent : {A : Type 0} (costs : Costs) (p q : Purse) (k : Seen) (name : CostName) (m n : ℕ) (a : Answer A) → m ≡ n → spend p (cost_of costs name m) ≡ Ok q → watched costs p k (charged name n a) ≡ watched costs q k a
charge_spent costs p q k name m n a h paid = charge_within costs p q k name n a (ap (λ i. spend p (cost_of costs name i)) (sym h) ∙ paid)

pub charge_refused : {A : Type 0} (costs : Costs) (p q : Purse) (k : Seen) (name : CostName) (m n : ℕ) (a : Answer A) (e : Stop) (s : State) → m ≡ n → Pays costs p name m (Err e) q → Stops (watched costs p k (charged name n a)) e q k s
charge_refused costs p q k name m n a e s h pays = charge_stops costs p q k name n a e s (subst (λ l. Pays costs p name l (Err e) q) h pays)

-- goes on with what is known to be there, and is lost where it isn't
pub known_some : {A B : Type 0} (costs : Costs) (p : Purse) (k : Seen) (o : Option A) (v : A) (go_on : A → State → Answer B) (s : State) → o ≡ Some v → watched costs p k (with_known o go_on s) ≡ watched costs p k (go_on v s)
known_some costs p k o v go_on s h = ap (λ x. watched costs p k (with_known x go_on s)) h

pub known_none : {A B : Type 0} (costs : Costs) (p : Purse) (k : Seen) (o : Option A) (go_on : A → State → Answer B) (s : State) → o ≡ None → watched costs p k (with_known o go_on s) ≡ Lost p k
known_none costs p k o go_on s h = ap (λ x. watched costs p k (with_known x go_on s)) h ∙ watched-stop costs p k Wrong s

pub known_same : {A : Type 0} (costs : Costs) (p : Purse) (k : Seen) (o u : Option A) (go_on : A → State → Answer Val) (s : State) → o ≡ u → watched costs p k (with_known o go_on s) ≡ watched costs p k (with_known u go_on s)
known_same costs p k o u go_on s h = ap (λ x. watched costs p k (with_known x go_on s)) h

-- ---- what is done without anything being seen

pub as_ends : {A : Type 0} (l : Limited A) (r : Result A Stop) (q : Purse) (k : Seen) (s : State) → runs.Ends l r q s → Ends (watched_as l k) r q k s
as_ends l (Ok v) q k s h = ap (λ m. watched_as m k) h
as_ends l (Err (Thrown v)) q k s h = ap (λ m. watched_as m k) h
as_ends l (Err (Arithmetic why)) q k s h = ap (λ m. watched_as m k) h
as_ends l (Err Panic) q k s h = ap (λ m. watched_as m k) h
as_ends l (Err Supply) q k s h = ap (λ m. watched_as m k) h
as_ends l (Err (CostLimit over)) q k s h = ap (λ m. watched_as m k) h
as_ends l (Err Stuck) q k s h = ap (λ m. watched_as m k) h
as_ends l (Err NoMemory) q k s h = subst (λ m. IsStart k m) (sym (seen_as l k)) (start_here k)

-- a run of which nothing is seen
pub unseen_ends : {A : Type 0} (costs : Costs) (p q : Purse) (k : Seen) (a : Answer A) (r : Result A Stop) (s : State) → trace_of costs p a ≡ [] → runs.Ends (limited costs p a) r q s → Ends (watched costs p k a) r q k s
unseen_ends costs p q k a r s h ends = ends_so (watched costs p k a) (watched_as (limited costs p a) k) r q k s (unseen costs p k a h) (as_ends (limited costs p a) r q k s ends)

-- ---- nodes that end

pub noting_on : (span : Span) → SeesOn (noting span)
noting_on span v s q k = told_on k (record { span = span; value = v } ∷ [])

-- a node that stops
pub node_stops : (costs : Costs) (p q : Purse) (j k : Seen) (span : Span) (a : Answer Val) (e : Stop) (s : State) → Stops (watched costs p j a) e q k s → Stops (watched costs p j (ending span a)) e q k s
node_stops costs p q j k span a e s h =
    stops_eq (watched costs p j (ending span a)) (after (watched costs p j a) (noting span)) e q k s (watched-ending costs p j span a)
    (stops_after (watched costs p j a) (noting span) e q k s (noting_on span) h)

seen_is : (k m : Seen) (at span : Span) (v w : Val) → at ≡ span → w ≡ v → GrewBy k m ((at, w) ∷ []) → m ≡ told k (record { span = span; value = v } ∷ [])
seen_is None m at span v w h same grew = grew
seen_is (Some xs) m at span v w h same grew = grew ∙ ap (λ (y : Span × Val). Some (xs ++ y ∷ [])) (λ i. (h i, same i))

-- a node that gives a value, which is seen
pub node_gives : (w : Watched Val) (span at : Span) (v u : Val) (s : State) (q : Purse) (k m : Seen) → w ≡ Gave v s q k → at ≡ span → u ≡ v → GrewBy k m ((at, u) ∷ []) → after w (noting span) ≡ Gave v s q m
node_gives w span at v u s q k m h same value grew =
    ap (λ x. after x (noting span)) h ∙ ap (Gave v s q) (sym (seen_is k m at span v u same value grew))

-- and one for which there is no room
pub node_unseen : (w : Watched Val) (span : Span) (v : Val) (s : State) (q : Purse) (k m : Seen) → w ≡ Gave v s q k → m ≡ k → IsStart m (seen_of (after w (noting span)))
node_unseen w span v s q k m h same =
    subst (λ i. IsStart i (seen_of (after w (noting span)))) (sym same) (subst (λ x. IsStart k (seen_of (after x (noting span)))) (sym h) (noting_on span v s q k))
