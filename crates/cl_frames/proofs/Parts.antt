-- The parts of a node, one after another.
use Rattle.std.proofs.Common.{◌≡◌, ℕ, ◌+◌, ◌<◌, ◌≤◌, List, [], ◌∷◌, ◌++◌, length, get_or, drop, map, Result, Err, append_assoc, refl, sym, ap, ◌∙◌, subst}
use Rattle.std.proofs.Common.{Vec, Global}
use Rattle.std.proofs.lemmas.List.{append-nil, drop_all}
use Rattle.cl_values.proofs.Lists.{next_part}
use Rattle.cl_shapes.specs.Limits.{Purse}
use Rattle.cl_sexpr.specs.Tree.{Tree}
use Rattle.cl_values.specs.Tree.{Tree as Val}
use Rattle.cl_events.specs.State.{State}
use Rattle.cl_code.specs.Typed.{Typed, expression_of}
use Rattle.cl_meaning.specs.Answers.{Answer, Given, give}
use Rattle.cl_meaning.specs.Scope.{Scope, Take, parts}
use Rattle.cl_meaning.specs.Limits.{Costs}
use Rattle.cl_frames.specs.Watching.{Seen, Watched, Gave, Threw, AbortedBy, Passed, Lost, watched, seen_of, after, IsStart, Stops, Ends}
use Rattle.cl_frames.proofs.WatchLaws.{watched-then, watched-stop, then_gave, start_here, starts}
use Rattle.cl_frames.specs.declared.stop.Stop.{Stop}
use Rattle.cl_frames.specs.declared.stop.Stop.TheVariants.{NoMemory}
use Rattle.cl_frames.specs.Runs.{items_in}
use Rattle.cl_frames.proofs.WatchSteps.{stops_eq, stops_after, stops_then, hands_on}

-- the values before, and those that are given
abbrev pub onto : List Val → Watched (List Val) → Watched (List Val)
onto vs l = after l (λ ws s p sp. Gave (vs ++ ws) s p sp)

pub onto_more : (vs : List Val) (v : Val) (l : Watched (List Val)) → onto vs (after l (λ ws s p sp. Gave (v ∷ ws) s p sp)) ≡ onto (vs ++ v ∷ []) l
onto_more vs v (Gave ws s p sp) = ap (λ us. Gave us s p sp) (sym (append_assoc vs (v ∷ []) ws))
onto_more vs v (Threw w s p sp) = refl
onto_more vs v (AbortedBy why p sp) = refl
onto_more vs v (Passed over p sp) = refl
onto_more vs v (Lost p sp) = refl

pub onto-nil : (l : Watched (List Val)) → l ≡ onto [] l
onto-nil (Gave ws s p sp) = refl
onto-nil (Threw w s p sp) = refl
onto-nil (AbortedBy why p sp) = refl
onto-nil (Passed over p sp) = refl
onto-nil (Lost p sp) = refl

pub gives_all : (costs : Costs) (v : Val) (l : Watched (List Val)) → after l (λ ws u r sr. watched costs r sr (give (v ∷ ws) u)) ≡ after l (λ ws u r sr. Gave (v ∷ ws) u r sr)
gives_all costs v (Gave ws s p sp) = watched-stop costs p sp (Given (v ∷ ws)) s
gives_all costs v (Threw w s p sp) = refl
gives_all costs v (AbortedBy why p sp) = refl
gives_all costs v (Passed over p sp) = refl
gives_all costs v (Lost p sp) = refl

parts_more : (costs : Costs) (p q : Purse) (sp sq : Seen) (take : Take) (S : Scope) (e : Tree) (es : List Tree) (s t : State) (vs : List Val) (v : Val) → watched costs p sp (take S e s) ≡ Gave v t q sq → onto vs (watched costs p sp (parts take S (e ∷ es) s)) ≡ onto (vs ++ v ∷ []) (watched costs q sq (parts take S es t))
unfolding parts
parts_more costs p q sp sq take S e es s t vs v h =
    ap (onto vs) (then_gave costs p q sp sq (take S e s) _ v t h ∙ watched-then costs q sq (parts take S es t) _ ∙ gives_all costs v (watched costs q sq (parts take S es t)))
    ∙ onto_more vs v (watched costs q sq (parts take S es t))

parts_stop : (costs : Costs) (p q : Purse) (sp sq : Seen) (take : Take) (S : Scope) (e : Tree) (es : List Tree) (s : State) (vs : List Val) (x : Stop) (t : State) → Stops (watched costs p sp (take S e s)) x q sq t → Stops (onto vs (watched costs p sp (parts take S (e ∷ es) s))) x q sq t
unfolding parts
parts_stop costs p q sp sq take S e es s vs x u h =
    stops_after (watched costs p sp (parts take S (e ∷ es) s)) (λ ws t r sr. Gave (vs ++ ws) t r sr) x q sq u (λ ws t r sr. start_here sr) (stops_then costs p q sp sq (take S e s) _ x u h)

-- a turn of the loop over the parts
pub parts_turn : (costs : Costs) (p q : Purse) (sp sq : Seen) (take : Take) (S : Scope) (xs : List Typed) (i : ℕ) (x : Typed) (s t : State) (vs us : List Val) (v : Val) → i < length xs → x ≡ get_or xs i x → us ≡ vs ++ v ∷ [] → watched costs p sp (take S (expression_of x) s) ≡ Gave v t q sq → onto vs (watched costs p sp (parts take S (map expression_of (drop i xs)) s)) ≡ onto us (watched costs q sq (parts take S (map expression_of (drop (i + 1) xs)) t))
parts_turn costs p q sp sq take S xs i x s t vs us v h k m e =
    ap (λ l. onto vs (watched costs p sp (parts take S (map expression_of l) s))) (next_part xs i x h k)
    ∙ parts_more costs p q sp sq take S (expression_of x) (map expression_of (drop (i + 1) xs)) s t vs v e
    ∙ ap (λ l. onto l (watched costs q sq (parts take S (map expression_of (drop (i + 1) xs)) t))) (sym m)

pub parts_turn_stop : (costs : Costs) (p q : Purse) (sp sq : Seen) (take : Take) (S : Scope) (xs : List Typed) (i : ℕ) (x : Typed) (s : State) (vs : List Val) (e : Stop) (t : State) → i < length xs → x ≡ get_or xs i x → Stops (watched costs p sp (take S (expression_of x) s)) e q sq t → Stops (onto vs (watched costs p sp (parts take S (map expression_of (drop i xs)) s))) e q sq t
parts_turn_stop costs p q sp sq take S xs i x s vs e t h k f =
    stops_eq _ _ e q sq t (ap (λ l. onto vs (watched costs p sp (parts take S (map expression_of l) s))) (next_part xs i x h k))
    (parts_stop costs p q sp sq take S (expression_of x) (map expression_of (drop (i + 1) xs)) s vs e t f)

none_left : (costs : Costs) (p : Purse) (sp : Seen) (take : Take) (S : Scope) (s : State) (vs : List Val) → onto vs (watched costs p sp (parts take S [] s)) ≡ Gave vs s p sp
unfolding parts
none_left costs p sp take S s vs = ap (onto vs) (watched-stop costs p sp (Given []) s) ∙ ap (λ l. Gave l s p sp) (append-nil vs)

pub parts_end : (costs : Costs) (p : Purse) (sp : Seen) (take : Take) (S : Scope) (xs : List Typed) (i : ℕ) (s : State) (vs : List Val) → length xs ≤ i → onto vs (watched costs p sp (parts take S (map expression_of (drop i xs)) s)) ≡ Gave vs s p sp
parts_end costs p sp take S xs i s vs h =
    ap (λ l. onto vs (watched costs p sp (parts take S (map expression_of l) s))) (drop_all i xs h) ∙ none_left costs p sp take S s vs

pub hands_on_all : (l : Watched (List Val)) (r : Result (Vec Val Global) Stop) (e : Stop) (q : Purse) (sq : Seen) (s : State) → (x : Stop) × (r ≡ Err x) × (x ≡ e) → Stops l e q sq s → Ends l (items_in r) q sq s
hands_on_all l r e q sq s p h = hands_on l (items_in r) e q sq s (p.0, ap items_in p.1, p.2) h

seen_onto : (vs : List Val) (l : Watched (List Val)) → seen_of (onto vs l) ≡ seen_of l
seen_onto vs (Gave ws s p sp) = refl
seen_onto vs (Threw w s p sp) = refl
seen_onto vs (AbortedBy why p sp) = refl
seen_onto vs (Passed over p sp) = refl
seen_onto vs (Lost p sp) = refl

-- memory runs out where nothing more was seen
pub onto_memory : (l : Watched (List Val)) (r : Result (Vec Val Global) Stop) (costs : Costs) (q : Purse) (sq : Seen) (vs : List Val) (a : Answer (List Val)) (s : State) → (x : Stop) × (r ≡ Err x) × (x ≡ NoMemory) → l ≡ onto vs (watched costs q sq a) → Ends l (items_in r) q sq s
onto_memory l r costs q sq vs a s h same =
    hands_on_all l r NoMemory q sq s h (stops_eq l (onto vs (watched costs q sq a)) NoMemory q sq s same (subst (λ k. IsStart sq k) (sym (seen_onto vs (watched costs q sq a))) (starts costs q sq a)))
