-- How the body of a function ends its application.
use Rattle.std.proofs.Common.{◌≡◌, true, false, List, ◌∷◌, Some, None, Result, Ok, Err, refl, sym, ap, ◌∙◌, subst}
use Rattle.cl_types.specs.declared.sized.Access.{Access}
use Rattle.cl_types.specs.declared.sized.Access.TheVariants.{Public, ReadOnly, Private}
use Rattle.cl_shapes.specs.Limits.{Purse}
use Rattle.cl_values.specs.Tree.{Tree as Val, ResponseV}
use Rattle.cl_events.specs.State.{State}
use Rattle.cl_state.specs.Stack.{Stack, rest_of}
use Rattle.cl_meaning.specs.Answers.{Answer, Given, give, wrong, stop, and_then, returning}
use Rattle.cl_meaning.specs.Calls.{closing}
use Rattle.cl_meaning.specs.Limits.{Costs}
use Rattle.cl_frames.specs.Watching.{Seen, Watched, Gave, Threw, AbortedBy, Passed, Lost, watched, seen_of, after, returned, IsStart, Stops, Ends}
use Rattle.cl_frames.proofs.WatchLaws.{watched-then, watched-stop, watched-returning, then_gave}
use Rattle.cl_frames.specs.declared.stop.Stop.{Stop}
use Rattle.cl_frames.specs.declared.stop.Stop.TheVariants.{Thrown, Arithmetic, Panic, Supply, CostLimit, Stuck, NoMemory}
use Rattle.cl_frames.specs.Runs.{Closes, is_public, response_of, returned_result}
use Rattle.cl_frames.proofs.WatchSteps.{stops_then, unseen_ends}
use Rattle.cl_frames.proofs.Unseen.{closing_unseen}

seen_returned : (l : Watched Val) → seen_of (returned l) ≡ seen_of l
seen_returned (Gave v s p sp) = refl
seen_returned (Threw v s p sp) = refl
seen_returned (AbortedBy why p sp) = refl
seen_returned (Passed over p sp) = refl
seen_returned (Lost p sp) = refl

-- an early return is given
returned_ends : (l : Watched Val) (r : Result Val Stop) (q : Purse) (sq : Seen) (s : State) → Ends l r q sq s → Ends (returned l) (returned_result r) q sq s
returned_ends l (Ok v) q sq s h = ap returned h
returned_ends l (Err (Thrown v)) q sq s h = ap returned h
returned_ends l (Err (Arithmetic why)) q sq s h = ap returned h
returned_ends l (Err Panic) q sq s h = ap returned h
returned_ends l (Err Supply) q sq s h = ap returned h
returned_ends l (Err (CostLimit over)) q sq s h = ap returned h
returned_ends l (Err Stuck) q sq s h = ap returned h
returned_ends l (Err NoMemory) q sq s h = subst (λ k. IsStart sq k) (sym (seen_returned l)) h

pub returning_ends : (costs : Costs) (p q : Purse) (sp sq : Seen) (a : Answer Val) (r x : Result Val Stop) (s : State) → x ≡ returned_result r → Ends (watched costs p sp a) r q sq s → Ends (watched costs p sp (returning a)) x q sq s
returning_ends costs p q sp sq a r x s same h =
    subst (λ y. Ends (watched costs p sp (returning a)) y q sq s) (sym same) (subst (λ l. Ends l (returned_result r) q sq s) (sym (watched-returning costs p sp a)) (returned_ends (watched costs p sp a) r q sq s h))

-- what is returned isn't thrown
never_thrown : (l : Watched Val) (v : Val) (s : State) (q : Purse) (sq : Seen) → returned l ≡ Threw v s q sq → ⊥
never_thrown (Gave w t r sr) v s q sq h = absurd cc
never_thrown (Threw w t r sr) v s q sq h = absurd cc
never_thrown (AbortedBy why r sr) v s q sq h = absurd cc
never_thrown (Passed over r sr) v s q sq h = absurd cc
never_thrown (Lost r sr) v s q sq h = absurd cc

-- where nothing is thrown, why it stops doesn't hang on the state
other_state : (costs : Costs) (p q : Purse) (sp sq : Seen) (a : Answer Val) (go_on : Val → State → Answer Val) (e : Stop) (s t : State) → Stops (watched costs p sp (returning a)) e q sq s → Stops (watched costs p sp (and_then (returning a) go_on)) e q sq t
other_state costs p q sp sq a go_on (Thrown v) s t h = absurd (never_thrown (watched costs p sp a) v s q sq (sym (watched-returning costs p sp a) ∙ h))
other_state costs p q sp sq a go_on (Arithmetic why) s t h = stops_then costs p q sp sq (returning a) go_on (Arithmetic why) t h
other_state costs p q sp sq a go_on Panic s t h = stops_then costs p q sp sq (returning a) go_on Panic t h
other_state costs p q sp sq a go_on Supply s t h = stops_then costs p q sp sq (returning a) go_on Supply t h
other_state costs p q sp sq a go_on (CostLimit over) s t h = stops_then costs p q sp sq (returning a) go_on (CostLimit over) t h
other_state costs p q sp sq a go_on Stuck s t h = stops_then costs p q sp sq (returning a) go_on Stuck t h
other_state costs p q sp sq a go_on NoMemory s t h = stops_then costs p q sp sq (returning a) go_on NoMemory t h

given_again : (costs : Costs) (l : Watched Val) → after l (λ v t r sr. watched costs r sr (give v t)) ≡ l
given_again costs (Gave v t r sr) = watched-stop costs r sr (Given v) t
given_again costs (Threw v t r sr) = refl
given_again costs (AbortedBy why r sr) = refl
given_again costs (Passed over r sr) = refl
given_again costs (Lost r sr) = refl

-- what isn't public ends as its body does
read_only_ends : (costs : Costs) (p : Purse) (sp : Seen) (a : Answer Val) (before : State) → watched costs p sp (and_then a (closing ReadOnly before)) ≡ watched costs p sp a
read_only_ends costs p sp a before = watched-then costs p sp a (closing ReadOnly before) ∙ given_again costs (watched costs p sp a)

private_ends : (costs : Costs) (p : Purse) (sp : Seen) (a : Answer Val) (before : State) → watched costs p sp (and_then a (closing Private before)) ≡ watched costs p sp a
private_ends costs p sp a before = watched-then costs p sp a (closing Private before) ∙ given_again costs (watched costs p sp a)

pub other_ends : (costs : Costs) (p : Purse) (sp : Seen) (access : Access) (a : Answer Val) (before : State) → is_public access ≡ false → watched costs p sp (and_then a (closing access before)) ≡ watched costs p sp a
other_ends costs p sp Public a before h = absurd cc
other_ends costs p sp ReadOnly a before h = read_only_ends costs p sp a before
other_ends costs p sp Private a before h = private_ends costs p sp a before

pub public_one : (access : Access) → is_public access ≡ true → access ≡ Public
public_one Public h = refl
public_one ReadOnly h = absurd cc
public_one Private h = absurd cc

pub closing_ok : (v : Val) (before s : State) → Some true ≡ response_of v → closing Public before v s ≡ give v s
closing_ok (ResponseV true v) before s h = refl
closing_ok (ResponseV false v) before s h = absurd cc
closing_ok v before s h = absurd cc

pub closing_err : (v : Val) (before s : State) → Some false ≡ response_of v → closing Public before v s ≡ give v before
closing_err (ResponseV false v) before s h = refl
closing_err (ResponseV true v) before s h = absurd cc
closing_err v before s h = absurd cc

pub closing_wrong : (v : Val) (before s : State) → None ≡ response_of v → closing Public before v s ≡ wrong s
closing_wrong (ResponseV good v) before s h = absurd cc
closing_wrong v before s h = refl

-- how a public function ends, from how its body does and what is done with its layer
pub public_ends : (costs : Costs) (p q : Purse) (sp sq : Seen) (a : Answer Val) (before : State) (rest : List State) (answer result : Result Val Stop) (mid now : Stack) → Ends (watched costs p sp (returning a)) answer q sq mid.top → mid.below ≡ before ∷ rest → Closes answer mid result now → Ends (watched costs p sp (and_then (returning a) (closing Public before))) result q sq now.top
public_ends costs p q sp sq a before rest (Ok v) result mid now h below k =
    subst (λ l. Ends l result q sq now.top) (sym (then_gave costs p q sp sq (returning a) (closing Public before) v mid.top h))
    (unseen_ends costs q q sq (closing Public before v mid.top) result now.top (closing_unseen before v mid.top costs q) (k costs q before rest below).answer)
public_ends costs p q sp sq a before rest (Err stop) result mid now h below k =
    subst (λ r. Ends (watched costs p sp (and_then (returning a) (closing Public before))) r q sq now.top) (sym k.0)
    (other_state costs p q sp sq a (closing Public before) stop mid.top now.top h)

pub closes_below : (costs : Costs) (p : Purse) (before : State) (rest : List State) (answer result : Result Val Stop) (mid now : Stack) → mid.below ≡ before ∷ rest → Closes answer mid result now → now.below ≡ rest
closes_below costs p before rest (Ok v) result mid now below k = (k costs p before rest below).below
closes_below costs p before rest (Err stop) result mid now below k = k.1 ∙ ap rest_of below
