-- Parts that are truth values, optionals or responses.
use Rattle.std.proofs.Common.{◌≡◌, Bool, true, false, Result, refl, sym, ap, ◌∙◌, subst}
use Rattle.cl_shapes.specs.Limits.{Purse}
use Rattle.cl_shapes.specs.declared.limit.Over.{Over}
use Rattle.cl_values.specs.Tree.{Tree as Val, IntV, UintV, BoolV, BuffV, AsciiV, Utf8V, PrincipalV, ListV, TupleV, NoneV, SomeV, ResponseV}
use Rattle.cl_events.specs.State.{State}
use Rattle.cl_meaning.specs.Answers.{Answer, Cause, Wrong, give, wrong, and_then}
use Rattle.cl_meaning.specs.Control.{choice, throw, wanted_part, err_part, tried}
use Rattle.cl_meaning.specs.Limits.{Costs}
use Rattle.cl_meaning.specs.Limits as plain
use Rattle.cl_frames.specs.Watching.{Seen, Watched, Gave, Threw, AbortedBy, Passed, Lost, watched_as, watched, seen_of, after, truthful, IsStart, Stops, Ends}
use Rattle.cl_frames.proofs.WatchLaws.{watched-then, watched-stop, then_gave, start_then, on_after, starts}
use Rattle.cl_frames.specs.declared.stop.Stop.{Stop}
use Rattle.cl_frames.specs.declared.stop.Stop.TheVariants.{Thrown, Arithmetic, Panic, Supply, CostLimit, Stuck, NoMemory}
use Rattle.cl_frames.specs.declared.way.Way.TheVariants.{Good, Bad, Neither}
use Rattle.cl_frames.specs.Runs.{way_of, err_way_of, content}
use Rattle.cl_frames.specs.Runs as runs
use Rattle.cl_frames.proofs.WatchSteps.{stops_eq, stops_after, ends_so, as_ends}

truth_of : (l : Watched Val) (b : Bool) (s : State) (q : Purse) (sq : Seen) → truthful l ≡ Gave b s q sq → l ≡ Gave (BoolV b) s q sq
truth_of (Gave (BoolV c) t r sr) b s q sq h = cc
truth_of (Gave v t r sr) b s q sq h = absurd cc
truth_of (Threw v t r sr) b s q sq h = absurd cc
truth_of (AbortedBy why r sr) b s q sq h = absurd cc
truth_of (Passed over r sr) b s q sq h = absurd cc
truth_of (Lost r sr) b s q sq h = absurd cc

seen_true : (v : Val) (s : State) (p : Purse) (sp : Seen) → seen_of (truthful (Gave v s p sp)) ≡ sp
seen_true (BoolV b) s p sp = refl
seen_true v s p sp = refl

pub seen_truthful : (l : Watched Val) → seen_of (truthful l) ≡ seen_of l
seen_truthful (Gave v s p sp) = seen_true v s p sp
seen_truthful (Threw v s p sp) = refl
seen_truthful (AbortedBy why p sp) = refl
seen_truthful (Passed over p sp) = refl
seen_truthful (Lost p sp) = refl

-- what a run shows of a truth value, a walk shows too
truth_as : (v : Val) (s : State) (p : Purse) (sp : Seen) → watched_as (runs.truthful (plain.Gave v s p)) sp ≡ truthful (Gave v s p sp)
truth_as (BoolV b) s p sp = refl
truth_as v s p sp = refl

pub truth_ends : (v : Val) (r : Result Bool Stop) (p : Purse) (sp : Seen) (s : State) → runs.Ends (runs.truthful (plain.Gave v s p)) r p s → Ends (truthful (Gave v s p sp)) r p sp s
truth_ends v r p sp s h = ends_so _ _ r p sp s (sym (truth_as v s p sp)) (as_ends (runs.truthful (plain.Gave v s p)) r p sp s h)

-- a part that was true or false
pub chose_first : (costs : Costs) (p q : Purse) (sp sq : Seen) (a : Answer Val) (x y : State → Answer Val) (b : Bool) (s : State) → truthful (watched costs p sp a) ≡ Gave b s q sq → b ≡ true → watched costs p sp (and_then a (λ v t. choice v x y t)) ≡ watched costs q sq (x s)
chose_first costs p q sp sq a x y b s h k =
    then_gave costs p q sp sq a _ (BoolV b) s (truth_of (watched costs p sp a) b s q sq h) ∙ ap (λ c. watched costs q sq (choice (BoolV c) x y s)) k

pub chose_second : (costs : Costs) (p q : Purse) (sp sq : Seen) (a : Answer Val) (x y : State → Answer Val) (b : Bool) (s : State) → truthful (watched costs p sp a) ≡ Gave b s q sq → b ≡ false → watched costs p sp (and_then a (λ v t. choice v x y t)) ≡ watched costs q sq (y s)
chose_second costs p q sp sq a x y b s h k =
    then_gave costs p q sp sq a _ (BoolV b) s (truth_of (watched costs p sp a) b s q sq h) ∙ ap (λ c. watched costs q sq (choice (BoolV c) x y s)) k

thrown_stops : (v : Val) (t : State) (r : Purse) (sr : Seen) (e : Stop) (q : Purse) (sq : Seen) (s : State) → Stops {A = Bool} (Threw v t r sr) e q sq s → Stops {A = Val} (Threw v t r sr) e q sq s
thrown_stops v t r sr (Thrown w) q sq s h = cc
thrown_stops v t r sr (Arithmetic y) q sq s h = absurd cc
thrown_stops v t r sr Panic q sq s h = absurd cc
thrown_stops v t r sr Supply q sq s h = absurd cc
thrown_stops v t r sr (CostLimit o) q sq s h = absurd cc
thrown_stops v t r sr Stuck q sq s h = absurd cc
thrown_stops v t r sr NoMemory q sq s h = h

aborted_stops : (why : Cause) (r : Purse) (sr : Seen) (e : Stop) (q : Purse) (sq : Seen) (s : State) → Stops {A = Bool} (AbortedBy why r sr) e q sq s → Stops {A = Val} (AbortedBy why r sr) e q sq s
aborted_stops why r sr (Thrown w) q sq s h = absurd cc
aborted_stops why r sr (Arithmetic y) q sq s h = cc
aborted_stops why r sr Panic q sq s h = cc
aborted_stops why r sr Supply q sq s h = cc
aborted_stops why r sr (CostLimit o) q sq s h = absurd cc
aborted_stops why r sr Stuck q sq s h = absurd cc
aborted_stops why r sr NoMemory q sq s h = h

passed_stops : (over : Over) (r : Purse) (sr : Seen) (e : Stop) (q : Purse) (sq : Seen) (s : State) → Stops {A = Bool} (Passed over r sr) e q sq s → Stops {A = Val} (Passed over r sr) e q sq s
passed_stops over r sr (Thrown w) q sq s h = absurd cc
passed_stops over r sr (Arithmetic y) q sq s h = absurd cc
passed_stops over r sr Panic q sq s h = absurd cc
passed_stops over r sr Supply q sq s h = absurd cc
passed_stops over r sr (CostLimit o) q sq s h = cc
passed_stops over r sr Stuck q sq s h = absurd cc
passed_stops over r sr NoMemory q sq s h = h

lost_stops : (r : Purse) (sr : Seen) (e : Stop) (q : Purse) (sq : Seen) (s : State) → Stops {A = Bool} (Lost r sr) e q sq s → Stops {A = Val} (Lost r sr) e q sq s
lost_stops r sr (Thrown w) q sq s h = absurd cc
lost_stops r sr (Arithmetic y) q sq s h = absurd cc
lost_stops r sr Panic q sq s h = absurd cc
lost_stops r sr Supply q sq s h = absurd cc
lost_stops r sr (CostLimit o) q sq s h = absurd cc
lost_stops r sr Stuck q sq s h = cc
lost_stops r sr NoMemory q sq s h = h

-- a value that is no truth value is lost
no_choice : (costs : Costs) (v : Val) (x y : State → Answer Val) (s : State) (p q : Purse) (sp sq : Seen) → truthful (Gave v s p sp) ≡ Lost q sq → watched costs p sp (choice v x y s) ≡ Lost q sq
no_choice costs (BoolV b) x y s p q sp sq h = absurd cc
no_choice costs (IntV z) x y s p q sp sq h = watched-stop costs p sp Wrong s ∙ lost_stops p sp Stuck q sq s h
no_choice costs (UintV n) x y s p q sp sq h = watched-stop costs p sp Wrong s ∙ lost_stops p sp Stuck q sq s h
no_choice costs (BuffV b) x y s p q sp sq h = watched-stop costs p sp Wrong s ∙ lost_stops p sp Stuck q sq s h
no_choice costs (AsciiV b) x y s p q sp sq h = watched-stop costs p sp Wrong s ∙ lost_stops p sp Stuck q sq s h
no_choice costs (Utf8V b) x y s p q sp sq h = watched-stop costs p sp Wrong s ∙ lost_stops p sp Stuck q sq s h
no_choice costs (PrincipalV b) x y s p q sp sq h = watched-stop costs p sp Wrong s ∙ lost_stops p sp Stuck q sq s h
no_choice costs (ListV b) x y s p q sp sq h = watched-stop costs p sp Wrong s ∙ lost_stops p sp Stuck q sq s h
no_choice costs (TupleV b) x y s p q sp sq h = watched-stop costs p sp Wrong s ∙ lost_stops p sp Stuck q sq s h
no_choice costs NoneV x y s p q sp sq h = watched-stop costs p sp Wrong s ∙ lost_stops p sp Stuck q sq s h
no_choice costs (SomeV b) x y s p q sp sq h = watched-stop costs p sp Wrong s ∙ lost_stops p sp Stuck q sq s h
no_choice costs (ResponseV g b) x y s p q sp sq h = watched-stop costs p sp Wrong s ∙ lost_stops p sp Stuck q sq s h

chooses_not : (costs : Costs) (l : Watched Val) (x y : State → Answer Val) (e : Stop) (q : Purse) (sq : Seen) (s : State) → Stops (truthful l) e q sq s → Stops (after l (λ v t r sr. watched costs r sr (choice v x y t))) e q sq s
chooses_not costs l x y NoMemory q sq s h =
    start_then sq (seen_of (truthful l)) _ h (subst (λ k. IsStart k (seen_of (after l (λ v t r sr. watched costs r sr (choice v x y t))))) (sym (seen_truthful l)) (on_after l (λ v t r sr. watched costs r sr (choice v x y t)) (λ v t r sr. starts costs r sr (choice v x y t))))
chooses_not costs (Gave (BoolV b) t r sr) x y (Thrown w) q sq s h = absurd cc
chooses_not costs (Gave (BoolV b) t r sr) x y (Arithmetic why) q sq s h = absurd cc
chooses_not costs (Gave (BoolV b) t r sr) x y Panic q sq s h = absurd cc
chooses_not costs (Gave (BoolV b) t r sr) x y Supply q sq s h = absurd cc
chooses_not costs (Gave (BoolV b) t r sr) x y (CostLimit over) q sq s h = absurd cc
chooses_not costs (Gave (BoolV b) t r sr) x y Stuck q sq s h = absurd cc
chooses_not costs (Gave v t r sr) x y (Thrown w) q sq s h = absurd cc
chooses_not costs (Gave v t r sr) x y (Arithmetic why) q sq s h = absurd cc
chooses_not costs (Gave v t r sr) x y Panic q sq s h = absurd cc
chooses_not costs (Gave v t r sr) x y Supply q sq s h = absurd cc
chooses_not costs (Gave v t r sr) x y (CostLimit over) q sq s h = absurd cc
chooses_not costs (Gave v t r sr) x y Stuck q sq s h = no_choice costs v x y t r q sr sq h
chooses_not costs (Threw v t r sr) x y e q sq s h = stops_after (Threw v t r sr) (λ v t r sr. watched costs r sr (choice v x y t)) e q sq s (λ v t r sr. starts costs r sr (choice v x y t)) (thrown_stops v t r sr e q sq s h)
chooses_not costs (AbortedBy why r sr) x y e q sq s h = stops_after (AbortedBy why r sr) (λ v t r sr. watched costs r sr (choice v x y t)) e q sq s (λ v t r sr. starts costs r sr (choice v x y t)) (aborted_stops why r sr e q sq s h)
chooses_not costs (Passed over r sr) x y e q sq s h = stops_after (Passed over r sr) (λ v t r sr. watched costs r sr (choice v x y t)) e q sq s (λ v t r sr. starts costs r sr (choice v x y t)) (passed_stops over r sr e q sq s h)
chooses_not costs (Lost r sr) x y e q sq s h = stops_after (Lost r sr) (λ v t r sr. watched costs r sr (choice v x y t)) e q sq s (λ v t r sr. starts costs r sr (choice v x y t)) (lost_stops r sr e q sq s h)

pub choice_stops : (costs : Costs) (p q : Purse) (sp sq : Seen) (a : Answer Val) (x y : State → Answer Val) (e : Stop) (s : State) → Stops (truthful (watched costs p sp a)) e q sq s → Stops (watched costs p sp (and_then a (λ v t. choice v x y t))) e q sq s
choice_stops costs p q sp sq a x y e s h =
    stops_eq _ _ e q sq s (watched-then costs p sp a (λ v t. choice v x y t)) (chooses_not costs (watched costs p sp a) x y e q sq s h)

-- ---- optionals and responses

pub wanted_good : (o : State → Answer Val) (v : Val) (s : State) → Good ≡ way_of v → wanted_part o v s ≡ give (content v) s
wanted_good o (SomeV v) s h = refl
wanted_good o NoneV s h = absurd cc
wanted_good o (ResponseV true v) s h = refl
wanted_good o (ResponseV false v) s h = absurd cc
wanted_good o v s h = absurd cc

pub wanted_bad : (o : State → Answer Val) (v : Val) (s : State) → Bad ≡ way_of v → wanted_part o v s ≡ o s
wanted_bad o (SomeV v) s h = absurd cc
wanted_bad o NoneV s h = refl
wanted_bad o (ResponseV true v) s h = absurd cc
wanted_bad o (ResponseV false v) s h = refl
wanted_bad o v s h = absurd cc

pub wanted_neither : (o : State → Answer Val) (v : Val) (s : State) → Neither ≡ way_of v → wanted_part o v s ≡ wrong s
wanted_neither o (SomeV v) s h = absurd cc
wanted_neither o NoneV s h = absurd cc
wanted_neither o (ResponseV true v) s h = absurd cc
wanted_neither o (ResponseV false v) s h = absurd cc
wanted_neither o v s h = refl

pub err_good : (o : State → Answer Val) (v : Val) (s : State) → Good ≡ err_way_of v → err_part o v s ≡ give (content v) s
err_good o (ResponseV false v) s h = refl
err_good o (ResponseV true v) s h = absurd cc
err_good o v s h = absurd cc

pub err_bad : (o : State → Answer Val) (v : Val) (s : State) → Bad ≡ err_way_of v → err_part o v s ≡ o s
err_bad o (ResponseV false v) s h = absurd cc
err_bad o (ResponseV true v) s h = refl
err_bad o v s h = absurd cc

pub err_neither : (o : State → Answer Val) (v : Val) (s : State) → Neither ≡ err_way_of v → err_part o v s ≡ wrong s
err_neither o (ResponseV false v) s h = absurd cc
err_neither o (ResponseV true v) s h = absurd cc
err_neither o v s h = refl

pub tried_good : (v : Val) (s : State) → Good ≡ way_of v → tried v s ≡ give (content v) s
tried_good (SomeV v) s h = refl
tried_good NoneV s h = absurd cc
tried_good (ResponseV true v) s h = refl
tried_good (ResponseV false v) s h = absurd cc
tried_good v s h = absurd cc

pub tried_bad : (v : Val) (s : State) → Bad ≡ way_of v → tried v s ≡ throw v s
tried_bad (SomeV v) s h = absurd cc
tried_bad NoneV s h = refl
tried_bad (ResponseV true v) s h = absurd cc
tried_bad (ResponseV false v) s h = refl
tried_bad v s h = absurd cc

pub tried_neither : (v : Val) (s : State) → Neither ≡ way_of v → tried v s ≡ wrong s
tried_neither (SomeV v) s h = absurd cc
tried_neither NoneV s h = absurd cc
tried_neither (ResponseV true v) s h = absurd cc
tried_neither (ResponseV false v) s h = absurd cc
tried_neither v s h = refl

-- a part that stops is no truth value either
pub truth_stops : (l : Watched Val) (e : Stop) (q : Purse) (sq : Seen) (s : State) → Stops l e q sq s → Stops (truthful l) e q sq s
truth_stops l (Thrown v) q sq s h = ap truthful h
truth_stops l (Arithmetic why) q sq s h = ap truthful h
truth_stops l Panic q sq s h = ap truthful h
truth_stops l Supply q sq s h = ap truthful h
truth_stops l (CostLimit over) q sq s h = ap truthful h
truth_stops l Stuck q sq s h = ap truthful h
truth_stops l NoMemory q sq s h = subst (λ k. IsStart sq k) (sym (seen_truthful l)) h
