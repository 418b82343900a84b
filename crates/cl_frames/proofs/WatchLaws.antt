-- How what is seen goes along with an answer that is put together.
use Rattle.std.proofs.Common.{◌≡◌, ℕ, List, [], ◌∷◌, ◌++◌, map, Some, None, refl, sym, ap, ◌∙◌, subst, arith, length-append}
use Rattle.std.proofs.lemmas.List.{append-nil, append_assoc, map-append}
use Rattle.std.specs.Prelude.{◌≤◌, ◌+◌, length, Ok, Err}
use Rattle.cl_shapes.specs.declared.limit.Over.{Over}
use Rattle.cl_shapes.specs.declared.name.CostName.{CostName}
use Rattle.cl_shapes.specs.Limits.{Purse, spend}
use Rattle.cl_sexpr.specs.declared.sexpr.Span.{Span}
use Rattle.cl_values.specs.Tree.{Tree as Val}
use Rattle.cl_events.specs.State.{State}
use Rattle.cl_code.specs.Watched.{GrewBy}
use Rattle.cl_meaning.specs.Answers.{Outcome, Given, Thrown, Aborted, Wrong, Deeper, Answer, Note, stop, charged, then_on, and_then, end_of, ending, returning}
use Rattle.cl_meaning.specs.Limits.{Costs, cost_of, Paid, Within, Past, paid_by, pay, limit_on, limited}
use Rattle.cl_meaning.specs.Limits as plain
use Rattle.cl_meaning.specs.Trace.{Claim, claims, trace_of}
use Rattle.cl_meaning.proofs.LimitLaws.{pay-append, claims-append, limited-returning}
use Rattle.cl_frames.specs.Watching.{Seen, pair_of, told, Watched, Gave, Threw, AbortedBy, Passed, Lost, watched_as, watched, seen_of, after, returned, amount, IsStart}

-- ---- what is told

told-nil : (k : Seen) → told k [] ≡ k
told-nil None = refl
told-nil (Some xs) = ap Some (append-nil xs)

told-append : (k : Seen) (cs ds : List Claim) → told k (cs ++ ds) ≡ told (told k cs) ds
told-append None cs ds = refl
told-append (Some xs) cs ds = ap Some (ap (λ l. xs ++ l) (map-append pair_of cs ds) ∙ sym (append_assoc xs (map pair_of cs) (map pair_of ds)))

pub start_here : (k : Seen) → IsStart k k
start_here None = ([], refl)
start_here (Some xs) = ([], ap Some (sym (append-nil xs)))

pub told_on : (k : Seen) (cs : List Claim) → IsStart k (told k cs)
told_on None cs = ([], refl)
told_on (Some xs) cs = (map pair_of cs, refl)

start_from : (k m n : Seen) (xs ys : List (Span × Val)) → GrewBy k m xs → GrewBy m n ys → GrewBy k n (xs ++ ys)
start_from None m n xs ys h g = subst (λ i. GrewBy i n ys) h g
start_from (Some us) m n xs ys h g =
    let there : n ≡ Some ((us ++ xs) ++ ys) = subst (λ i. GrewBy i n ys) h g in
    there ∙ ap Some (append_assoc us xs ys)

pub start_then : (k m n : Seen) → IsStart k m → IsStart m n → IsStart k n
start_then k m n h g = (h.0 ++ g.0, start_from k m n h.0 g.0 h.1 g.1)

-- ---- one answer behind another

gives_case : {A B : Type 0} (costs : Costs) (q : Paid) (cs : List Claim) (k : Seen) (v : A) (s : State) (go_on : A → State → Answer B) → watched_as (limit_on (pay costs q (go_on v s).log) (go_on v s).outcome (go_on v s).state) (told k (cs ++ claims costs q (go_on v s).log)) ≡ after (watched_as (limit_on q (Given v) s) (told k cs)) (λ w t r j. watched costs r j (go_on w t))
unfolding watched limited pay claims trace_of
gives_case costs (Past over p) cs k v s go_on = ap (λ l. Passed over p (told k l)) (append-nil cs)
gives_case costs (Within p) cs k v s go_on = ap (watched_as (limited costs p (go_on v s))) (told-append k cs (trace_of costs p (go_on v s)))

ends_case : {A B : Type 0} (q : Paid) (o : Outcome A) (o' : Outcome B) (s : State) (k : Seen) (go_on : A → State → Purse → Seen → Watched B) → ((p : Purse) → watched_as (limit_on (Within p) o' s) k ≡ after (watched_as (limit_on (Within p) o s) k) go_on) → watched_as (limit_on q o' s) k ≡ after (watched_as (limit_on q o s) k) go_on
ends_case (Past over p) o o' s k go_on h = refl
ends_case (Within p) o o' s k go_on h = h p

then_case : {A B : Type 0} (costs : Costs) (p : Purse) (k : Seen) (o : Outcome A) (s : State) (log : List Note) (go_on : A → State → Answer B) → watched costs p k (then_on o s log go_on) ≡ after (watched_as (limit_on (pay costs (Within p) log) o s) (told k (claims costs (Within p) log))) (λ v t q j. watched costs q j (go_on v t))
unfolding watched limited trace_of
then_case costs p k (Given v) s log go_on =
    ap (λ q. watched_as (limit_on q (go_on v s).outcome (go_on v s).state) (told k (claims costs (Within p) (log ++ (go_on v s).log)))) (pay-append costs (Within p) log (go_on v s).log)
    ∙ ap (λ cs. watched_as (limit_on (pay costs (pay costs (Within p) log) (go_on v s).log) (go_on v s).outcome (go_on v s).state) (told k cs)) (claims-append costs (Within p) log (go_on v s).log)
    ∙ gives_case costs (pay costs (Within p) log) (claims costs (Within p) log) k v s go_on
then_case costs p k (Thrown v) s log go_on = ends_case (pay costs (Within p) log) (Thrown v) (Thrown v) s _ _ (λ r. refl)
then_case costs p k (Aborted why) s log go_on = ends_case (pay costs (Within p) log) (Aborted why) (Aborted why) s _ _ (λ r. refl)
then_case costs p k Wrong s log go_on = ends_case (pay costs (Within p) log) Wrong Wrong s _ _ (λ r. refl)
then_case costs p k Deeper s log go_on = ends_case (pay costs (Within p) log) Deeper Deeper s _ _ (λ r. refl)

pub watched-then : {A B : Type 0} (costs : Costs) (p : Purse) (k : Seen) (a : Answer A) (go_on : A → State → Answer B) → watched costs p k (and_then a go_on) ≡ after (watched costs p k a) (λ v s q j. watched costs q j (go_on v s))
unfolding and_then watched limited trace_of
watched-then costs p k a go_on = then_case costs p k a.outcome a.state a.log go_on

pub watched-stop : {A : Type 0} (costs : Costs) (p : Purse) (k : Seen) (o : Outcome A) (s : State) → watched costs p k (stop o s) ≡ watched_as (limit_on (Within p) o s) k
unfolding stop watched limited pay claims trace_of
watched-stop costs p k o s = ap (watched_as (limit_on (Within p) o s)) (told-nil k)

-- a charge that the limit allows, and one that it doesn't
pub charge_within : {A : Type 0} (costs : Costs) (p q : Purse) (k : Seen) (name : CostName) (n : ℕ) (a : Answer A) → spend p (cost_of costs name n) ≡ Ok q → watched costs p k (charged name n a) ≡ watched costs q k a
unfolding charged watched limited pay claims trace_of
charge_within costs p q k name n a h = ap (λ r. watched_as (limit_on (pay costs (paid_by p r) a.log) a.outcome a.state) (told k (claims costs (paid_by p r) a.log))) h

pub charge_over : {A : Type 0} (costs : Costs) (p : Purse) (k : Seen) (over : Over) (name : CostName) (n : ℕ) (a : Answer A) → spend p (cost_of costs name n) ≡ Err over → watched costs p k (charged name n a) ≡ Passed over p k
unfolding charged watched limited pay claims trace_of
charge_over costs p k over name n a h =
    ap (λ r. watched_as (limit_on (pay costs (paid_by p r) a.log) a.outcome a.state) (told k (claims costs (paid_by p r) a.log))) h ∙ ap (Passed over p) (told-nil k)

-- what follows a value that was given
pub then_gave : {A B : Type 0} (costs : Costs) (p q : Purse) (j k : Seen) (a : Answer A) (go_on : A → State → Answer B) (v : A) (s : State) → watched costs p j a ≡ Gave v s q k → watched costs p j (and_then a go_on) ≡ watched costs q k (go_on v s)
then_gave costs p q j k a go_on v s h = watched-then costs p j a go_on ∙ ap (λ w. after w (λ x t r i. watched costs r i (go_on x t))) h

-- ---- a node that ends with a value

-- it is seen
abbrev pub noting : Span → Val → State → Purse → Seen → Watched Val
noting span v s p k = Gave v s p (told k (record { span = span; value = v } ∷ []))

ended_case : (costs : Costs) (span : Span) (q : Paid) (k : Seen) (cs : List Claim) (o : Outcome Val) (s : State) → watched_as (limit_on (pay costs q (end_of span o)) o s) (told k (cs ++ claims costs q (end_of span o))) ≡ after (watched_as (limit_on q o s) (told k cs)) (noting span)
unfolding pay claims
ended_case costs span (Past over p) k cs o s = ap (λ l. Passed over p (told k l)) (append-nil cs)
ended_case costs span (Within p) k cs (Given v) s = ap (Gave v s p) (told-append k cs (record { span = span; value = v } ∷ []))
ended_case costs span (Within p) k cs (Thrown v) s = ap (λ l. Threw v s p (told k l)) (append-nil cs)
ended_case costs span (Within p) k cs (Aborted why) s = ap (λ l. AbortedBy why p (told k l)) (append-nil cs)
ended_case costs span (Within p) k cs Wrong s = ap (λ l. Lost p (told k l)) (append-nil cs)
ended_case costs span (Within p) k cs Deeper s = ap (λ l. Lost p (told k l)) (append-nil cs)

pub watched-ending : (costs : Costs) (p : Purse) (k : Seen) (span : Span) (a : Answer Val) → watched costs p k (ending span a) ≡ after (watched costs p k a) (noting span)
unfolding ending watched limited trace_of
watched-ending costs p k span a =
    ap (λ q. watched_as (limit_on q a.outcome a.state) (told k (claims costs (Within p) (a.log ++ end_of span a.outcome)))) (pay-append costs (Within p) a.log (end_of span a.outcome))
    ∙ ap (λ cs. watched_as (limit_on (pay costs (pay costs (Within p) a.log) (end_of span a.outcome)) a.outcome a.state) (told k cs)) (claims-append costs (Within p) a.log (end_of span a.outcome))
    ∙ ended_case costs span (pay costs (Within p) a.log) k (claims costs (Within p) a.log) a.outcome a.state

-- ---- early returns

returned_as : (l : plain.Limited Val) (k : Seen) → watched_as (plain.returned l) k ≡ returned (watched_as l k)
returned_as (plain.Gave v s p) k = refl
returned_as (plain.Threw v s p) k = refl
returned_as (plain.AbortedBy why p) k = refl
returned_as (plain.Passed over p) k = refl
returned_as (plain.Lost p) k = refl

pub watched-returning : (costs : Costs) (p : Purse) (k : Seen) (a : Answer Val) → watched costs p k (returning a) ≡ returned (watched costs p k a)
unfolding returning watched trace_of
watched-returning costs p k a =
    ap (λ l. watched_as l (told k (claims costs (Within p) a.log))) (limited-returning costs p a) ∙ returned_as (limited costs p a) (told k (claims costs (Within p) a.log))

-- ---- what is seen in the end

pub seen_as : {A : Type 0} (l : plain.Limited A) (k : Seen) → seen_of (watched_as l k) ≡ k
seen_as (plain.Gave v s p) k = refl
seen_as (plain.Threw v s p) k = refl
seen_as (plain.AbortedBy why p) k = refl
seen_as (plain.Passed over p) k = refl
seen_as (plain.Lost p) k = refl

pub all_seen : {A : Type 0} (costs : Costs) (p : Purse) (k : Seen) (a : Answer A) → seen_of (watched costs p k a) ≡ told k (trace_of costs p a)
unfolding watched
all_seen costs p k a = seen_as (limited costs p a) (told k (trace_of costs p a))

-- what was seen before is the start of it
pub starts : {A : Type 0} (costs : Costs) (p : Purse) (k : Seen) (a : Answer A) → IsStart k (seen_of (watched costs p k a))
starts costs p k a = subst (λ m. IsStart k m) (sym (all_seen costs p k a)) (told_on k (trace_of costs p a))

-- what goes on sees more
pub on_after : {A B : Type 0} (w : Watched A) (go_on : A → State → Purse → Seen → Watched B) → ((v : A) (s : State) (q : Purse) (k : Seen) → IsStart k (seen_of (go_on v s q k))) → IsStart (seen_of w) (seen_of (after w go_on))
on_after (Gave v s p k) go_on h = h v s p k
on_after (Threw v s p k) go_on h = start_here k
on_after (AbortedBy why p k) go_on h = start_here k
on_after (Passed over p k) go_on h = start_here k
on_after (Lost p k) go_on h = start_here k

-- an answer of which nothing is seen
pub unseen : {A : Type 0} (costs : Costs) (p : Purse) (k : Seen) (a : Answer A) → trace_of costs p a ≡ [] → watched costs p k a ≡ watched_as (limited costs p a) k
unfolding watched
unseen costs p k a h = ap (watched_as (limited costs p a)) (ap (told k) h ∙ told-nil k)

-- where more was seen, not less was
pub grew_more : (k m : Seen) (more : List (Span × Val)) → GrewBy k m more → amount k ≤ amount m
grew_more None m more h = omega arith
grew_more (Some xs) m more h =
    let whole : length (xs ++ more) ≡ length xs + length more = length-append xs more in
    subst (λ i. length xs ≤ amount i) (sym h) (omega (arith, whole))
