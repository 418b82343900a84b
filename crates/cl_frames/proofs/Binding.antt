-- Parameters bound to values, one after another.
use Rattle.std.proofs.Common.{◌≡◌, ℕ, suc, ◌+◌, ◌<◌, ◌≤◌, List, [], ◌∷◌, ◌++◌, length, get_or, take, drop, Result, Ok, Err, refl, sym, ap, ◌∙◌, subst, arith}
use Rattle.std.proofs.lemmas.List.{drop_all, take_all, length-drop}
use Rattle.cl_types.specs.Types.{PlainType}
use Rattle.cl_values.proofs.Lists.{next_part}
use Rattle.cl_shapes.specs.Limits.{Purse, spend}
use Rattle.cl_shapes.specs.declared.name.CostName.TheVariants.{Bind}
use Rattle.cl_values.specs.Tree.{Tree as Val}
use Rattle.cl_values.specs.Wire.{size_of}
use Rattle.cl_events.specs.State.{State}
use Rattle.cl_meaning.specs.Answers.{Wrong, Answer, charged, wrong}
use Rattle.cl_meaning.specs.Scope.{BoundValues}
use Rattle.cl_meaning.specs.Calls.{bound_to}
use Rattle.cl_meaning.specs.Limits.{Costs, cost_of}
use Rattle.cl_frames.specs.Named.{paired}
use Rattle.cl_frames.specs.Watching.{Seen, Lost, watched, Stops, Binds}
use Rattle.cl_frames.proofs.WatchLaws.{watched-stop}
use Rattle.cl_frames.specs.declared.stop.Stop.{Stop}
use Rattle.cl_frames.specs.Runs.{Pays}
use Rattle.cl_frames.proofs.WatchSteps.{stops_eq, charge_spent, charge_refused}
use Rattle.cl_frames.proofs.Pairing.{Params, paired-nil, none_taken, there, more_pairs}

-- from this place on, whatever follows
abbrev pub SameFrom : Costs → Purse → Params → List Val → Purse → ℕ → Type 0
SameFrom costs p params values q i =
    (body : BoundValues → State → Answer Val) (s : State) (sp : Seen) → watched costs p sp (bound_to body [] params values s) ≡ watched costs q sp (bound_to body (paired params (take i values)) (drop i params) (drop i values) s)

one_more : (body : BoundValues → State → Answer Val) (bound : BoundValues) (x : List ℕ × PlainType) (params : Params) (v : Val) (values : List Val) (s : State) → bound_to body bound (x ∷ params) (v ∷ values) s ≡ charged Bind (size_of v) (bound_to body (bound ++ (x.0, v) ∷ []) params values s)
unfolding bound_to
one_more body bound x params v values s = refl

none_more : (body : BoundValues → State → Answer Val) (bound : BoundValues) (s : State) → bound_to body bound [] [] s ≡ body bound s
unfolding bound_to
none_more body bound s = refl

too_many : (body : BoundValues → State → Answer Val) (bound : BoundValues) (values : List Val) (s : State) → 0 < length values → bound_to body bound [] values s ≡ wrong s
unfolding bound_to
too_many body bound [] s h = absurd (omega arith)
too_many body bound (v ∷ values) s h = refl

too_few : (body : BoundValues → State → Answer Val) (bound : BoundValues) (params : Params) (s : State) → 0 < length params → bound_to body bound params [] s ≡ wrong s
unfolding bound_to
too_few body bound [] s h = absurd (omega arith)
too_few body bound (x ∷ params) s h = refl

pub bind_starts : (costs : Costs) (p : Purse) (params : Params) (values : List Val) → SameFrom costs p params values p 0
bind_starts costs p params values body s sp =
    ap (λ b. watched costs p sp (bound_to body b params values s)) (sym (ap (paired params) (none_taken values) ∙ paired-nil params))

-- the parameter at this place is bound to the value there
at_place : (costs : Costs) (p : Purse) (sp : Seen) (body : BoundValues → State → Answer Val) (bound : BoundValues) (params : Params) (values : List Val) (i : ℕ) (x : List ℕ × PlainType) (v : Val) (s : State) → i < length params → i < length values → x ≡ get_or params i x → v ≡ get_or values i v → watched costs p sp (bound_to body bound (drop i params) (drop i values) s) ≡ watched costs p sp (charged Bind (size_of v) (bound_to body (bound ++ (x.0, v) ∷ []) (drop (i + 1) params) (drop (i + 1) values) s))
at_place costs p sp body bound params values i x v s h k hx hv =
    ap (λ l. watched costs p sp (bound_to body bound l (drop i values) s)) (next_part params i x h hx)
    ∙ ap (λ l. watched costs p sp (bound_to body bound (x ∷ drop (i + 1) params) l s)) (next_part values i v k hv)
    ∙ ap (watched costs p sp) (one_more body bound x (drop (i + 1) params) v (drop (i + 1) values) s)

pub bind_turn : (costs : Costs) (p q : Purse) (sp : Seen) (body : BoundValues → State → Answer Val) (params : Params) (values : List Val) (i : ℕ) (v : Val) (m : ℕ) (s : State) → i < length params → i < length values → v ≡ get_or values i v → m ≡ size_of v → spend p (cost_of costs Bind m) ≡ Ok q → watched costs p sp (bound_to body (paired params (take i values)) (drop i params) (drop i values) s) ≡ watched costs q sp (bound_to body (paired params (take (i + 1) values)) (drop (i + 1) params) (drop (i + 1) values) s)
bind_turn costs p q sp body params values i v m s h k hv size spent =
    let first = there params i h in
    let next : suc i ≡ i + 1 = omega arith in
    let bound : BoundValues = paired params (take i values) in
    at_place costs p sp body bound params values i first.0 v s h k first.1 hv
    ∙ charge_spent costs p q sp Bind m (size_of v) (bound_to body (bound ++ (first.0.0, v) ∷ []) (drop (i + 1) params) (drop (i + 1) values) s) size spent
    ∙ ap (λ b. watched costs q sp (bound_to body b (drop (i + 1) params) (drop (i + 1) values) s)) (sym (more_pairs params values i first.0 v h k first.1 hv) ∙ ap (λ n. paired params (take n values)) next)

pub bind_stops : (costs : Costs) (p q : Purse) (sp : Seen) (body : BoundValues → State → Answer Val) (bound : BoundValues) (params : Params) (values : List Val) (i : ℕ) (v : Val) (m : ℕ) (s : State) (e : Stop) → i < length params → i < length values → v ≡ get_or values i v → m ≡ size_of v → Pays costs p Bind m (Err e) q → Stops (watched costs p sp (bound_to body bound (drop i params) (drop i values) s)) e q sp s
bind_stops costs p q sp body bound params values i v m s e h k hv size pays =
    let first = there params i h in
    stops_eq _ _ e q sp s (at_place costs p sp body bound params values i first.0 v s h k first.1 hv)
    (charge_refused costs p q sp Bind m (size_of v) (bound_to body (bound ++ (first.0.0, v) ∷ []) (drop (i + 1) params) (drop (i + 1) values) s) e s size pays)

pub bind_past : (costs : Costs) (p : Purse) (sp : Seen) (body : BoundValues → State → Answer Val) (bound : BoundValues) (params : Params) (values : List Val) (i : ℕ) (s : State) → length params ≤ i → i < length values → watched costs p sp (bound_to body bound (drop i params) (drop i values) s) ≡ Lost p sp
bind_past costs p sp body bound params values i s h k =
    let left : 0 < length (drop i values) = omega (arith, k, length-drop i values) in
    ap (λ l. watched costs p sp (bound_to body bound l (drop i values) s)) (drop_all i params h) ∙ ap (watched costs p sp) (too_many body bound (drop i values) s left) ∙ watched-stop costs p sp Wrong s

pub bind_short : (costs : Costs) (p : Purse) (sp : Seen) (body : BoundValues → State → Answer Val) (bound : BoundValues) (params : Params) (values : List Val) (i : ℕ) (s : State) → i < length params → length values ≤ i → watched costs p sp (bound_to body bound (drop i params) (drop i values) s) ≡ Lost p sp
bind_short costs p sp body bound params values i s h k =
    let left : 0 < length (drop i params) = omega (arith, h, length-drop i params) in
    ap (λ l. watched costs p sp (bound_to body bound (drop i params) l s)) (drop_all i values k) ∙ ap (watched costs p sp) (too_few body bound (drop i params) s left) ∙ watched-stop costs p sp Wrong s

pub bind_end : (costs : Costs) (p : Purse) (sp : Seen) (body : BoundValues → State → Answer Val) (params : Params) (values : List Val) (i : ℕ) (s : State) → length params ≤ i → length values ≤ i → watched costs p sp (bound_to body (paired params (take i values)) (drop i params) (drop i values) s) ≡ watched costs p sp (body (paired params values) s)
bind_end costs p sp body params values i s h k =
    ap (λ l. watched costs p sp (bound_to body (paired params (take i values)) l (drop i values) s)) (drop_all i params h)
    ∙ ap (λ l. watched costs p sp (bound_to body (paired params (take i values)) [] l s)) (drop_all i values k)
    ∙ ap (watched costs p sp) (none_more body (paired params (take i values)) s)
    ∙ ap (λ l. watched costs p sp (body (paired params l) s)) (take_all i values k)

-- what `?` hands on
pub binds_not : (costs : Costs) (p q : Purse) (params : Params) (values : List Val) (r : Result (Unit {0}) Stop) (e : Stop) → (x : Stop) × (r ≡ Err x) × (x ≡ e) → ((body : BoundValues → State → Answer Val) (s : State) (sp : Seen) → Stops (watched costs p sp (bound_to body [] params values s)) e q sp s) → Binds costs p params values r q
binds_not costs p q params values r e h stops = subst (λ x. Binds costs p params values x q) (sym (h.1 ∙ ap Err h.2)) stops

-- the values as the code hands them on
pub given_as : (costs : Costs) (p : Purse) (sp : Seen) (body : BoundValues → State → Answer Val) (params : Params) (values seen : List Val) (s : State) → seen ≡ values → watched costs p sp (bound_to body [] params values s) ≡ watched costs p sp (bound_to body [] params seen s)
given_as costs p sp body params values seen s h = ap (λ l. watched costs p sp (bound_to body [] params l s)) (sym h)
