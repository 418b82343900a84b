-- The applications to the entries of sequences, one after another.
use Rattle.std.proofs.Common.{◌≡◌, ◌+◌, List, [], ◌∷◌, ◌++◌, Bool, true, false, Option, Some, None, Result, refl, sym, ap, ◌∙◌}
use Rattle.std.proofs.lemmas.List.{append-nil}
use Rattle.std.specs.Prelude.{option_map}
use Rattle.cl_shapes.specs.Limits.{Purse}
use Rattle.cl_values.specs.Tree.{Tree as Val, IntV, UintV, BoolV, BuffV, AsciiV, Utf8V, PrincipalV, ListV, TupleV, NoneV, SomeV, ResponseV, items_of}
use Rattle.cl_values.specs.Computed.{Gives}
use Rattle.cl_values.specs.Sequences.{entries_of, like, on_entries}
use Rattle.cl_events.specs.State.{State}
use Rattle.cl_meaning.specs.Answers.{Answer, Given, Wrong, stop, give, and_then, with_known, outcome_of}
use Rattle.cl_meaning.specs.Scope.{Scope, Callee, Enter}
use Rattle.cl_meaning.specs.Sequences.{each, mapped, sifted, kept_if, filtered, folded, side_by_side, and_entries, all_entries, rows_of}
use Rattle.cl_meaning.specs.Limits.{Costs, limited}
use Rattle.cl_frames.specs.Watching.{Seen, Watched, Gave, Threw, AbortedBy, Passed, Lost, watched, after, Stops, Ends}
use Rattle.cl_frames.proofs.WatchLaws.{watched-then, watched-stop, then_gave, start_here, starts}
use Rattle.cl_frames.specs.declared.stop.Stop.{Stop}
use Rattle.cl_frames.specs.Kept.{flags_of, chosen, kept_of}
use Rattle.cl_frames.proofs.WatchSteps.{stops_eq, stops_after, stops_then, ends_so, unseen_ends}
use Rattle.cl_frames.proofs.Unseen.{kept_unseen}
use Rattle.cl_frames.specs.Runs as runs
use Rattle.cl_frames.proofs.Parts.{onto, onto_more, gives_all}

-- ---- folds

one_folded : (enter : Enter) (S : Scope) (f : Callee) (x : Val) (xs : List Val) (result : Val) (s : State) → folded enter S f (x ∷ xs) result s ≡ and_then (enter S f (x ∷ result ∷ []) s) (folded enter S f xs)
unfolding folded
one_folded enter S f x xs result s = refl

pub fold_next : (costs : Costs) (p : Purse) (sp : Seen) (enter : Enter) (S : Scope) (f : Callee) (all : List Val) (x : Val) (xs values : List Val) (result : Val) (s : State) → all ≡ x ∷ xs → values ≡ x ∷ result ∷ [] → watched costs p sp (folded enter S f all result s) ≡ watched costs p sp (and_then (enter S f values s) (folded enter S f xs))
fold_next costs p sp enter S f all x xs values result s h k =
    ap (λ l. watched costs p sp (folded enter S f l result s)) h ∙ ap (watched costs p sp) (one_folded enter S f x xs result s)
    ∙ ap (λ vs. watched costs p sp (and_then (enter S f vs s) (folded enter S f xs))) (sym k)

none_folded : (enter : Enter) (S : Scope) (f : Callee) (result : Val) (s : State) → folded enter S f [] result s ≡ give result s
unfolding folded
none_folded enter S f result s = refl

pub fold_end : (costs : Costs) (p : Purse) (sp : Seen) (enter : Enter) (S : Scope) (f : Callee) (xs : List Val) (result : Val) (s : State) → xs ≡ [] → watched costs p sp (folded enter S f xs result s) ≡ Gave result s p sp
fold_end costs p sp enter S f xs result s h =
    ap (λ l. watched costs p sp (folded enter S f l result s)) h ∙ ap (watched costs p sp) (none_folded enter S f result s) ∙ watched-stop costs p sp (Given result) s

-- ---- each of the rows

next_each : (enter : Enter) (S : Scope) (f : Callee) (r : List Val) (rows : List (List Val)) (s : State) → each enter S f (r ∷ rows) s ≡ and_then (enter S f r s) (λ v t. and_then (each enter S f rows t) (λ vs u. give (v ∷ vs) u))
unfolding each
next_each enter S f r rows s = refl

none_each : (enter : Enter) (S : Scope) (f : Callee) (s : State) → each enter S f [] s ≡ give [] s
unfolding each
none_each enter S f s = refl

pub each_turn : (costs : Costs) (p q : Purse) (sp sq : Seen) (enter : Enter) (S : Scope) (f : Callee) (all : List (List Val)) (r : List Val) (rows : List (List Val)) (s t : State) (vs us : List Val) (v : Val) → all ≡ r ∷ rows → us ≡ vs ++ v ∷ [] → watched costs p sp (enter S f r s) ≡ Gave v t q sq → onto vs (watched costs p sp (each enter S f all s)) ≡ onto us (watched costs q sq (each enter S f rows t))
each_turn costs p q sp sq enter S f all r rows s t vs us v k m h =
    ap (λ l. onto vs (watched costs p sp (each enter S f l s))) k
    ∙ ap (onto vs) (ap (watched costs p sp) (next_each enter S f r rows s) ∙ then_gave costs p q sp sq (enter S f r s) (λ w u. and_then (each enter S f rows u) (λ ws z. give (w ∷ ws) z)) v t h ∙ watched-then costs q sq (each enter S f rows t) (λ ws z. give (v ∷ ws) z) ∙ gives_all costs v (watched costs q sq (each enter S f rows t)))
    ∙ onto_more vs v (watched costs q sq (each enter S f rows t))
    ∙ ap (λ l. onto l (watched costs q sq (each enter S f rows t))) (sym m)

pub each_stops : (costs : Costs) (p q : Purse) (sp sq : Seen) (enter : Enter) (S : Scope) (f : Callee) (all : List (List Val)) (r : List Val) (rows : List (List Val)) (s : State) (vs : List Val) (x : Stop) (t : State) → all ≡ r ∷ rows → Stops (watched costs p sp (enter S f r s)) x q sq t → Stops (onto vs (watched costs p sp (each enter S f all s))) x q sq t
each_stops costs p q sp sq enter S f all r rows s vs x t k h =
    stops_eq _ _ x q sq t (ap (λ l. onto vs (watched costs p sp (each enter S f l s))) k ∙ ap (λ a. onto vs (watched costs p sp a)) (next_each enter S f r rows s))
    (stops_after (watched costs p sp (and_then (enter S f r s) (λ w u. and_then (each enter S f rows u) (λ ws z. give (w ∷ ws) z)))) (λ ws u z sz. Gave (vs ++ ws) u z sz) x q sq t (λ ws u z sz. start_here sz)
    (stops_then costs p q sp sq (enter S f r s) (λ w u. and_then (each enter S f rows u) (λ ws z. give (w ∷ ws) z)) x t h))

pub each_end : (costs : Costs) (p : Purse) (sp : Seen) (enter : Enter) (S : Scope) (f : Callee) (rows : List (List Val)) (s : State) (vs : List Val) → rows ≡ [] → onto vs (watched costs p sp (each enter S f rows s)) ≡ Gave vs s p sp
each_end costs p sp enter S f rows s vs h =
    ap (λ l. onto vs (watched costs p sp (each enter S f l s))) h ∙ ap (λ a. onto vs (watched costs p sp a)) (none_each enter S f s)
    ∙ ap (onto vs) (watched-stop costs p sp (Given []) s) ∙ ap (λ l. Gave l s p sp) (append-nil vs)

-- ---- the list of the results

known_then : {A B C : Type 0} (o : Option A) (first : A → State → Answer B) (k : B → State → Answer C) (s : State) → with_known o (λ a t. and_then (first a t) k) s ≡ and_then (with_known o first s) k
unfolding and_then stop
known_then None first k s = refl
known_then (Some a) first k s = refl

pub map_results : (costs : Costs) (p : Purse) (sp : Seen) (enter : Enter) (S : Scope) (f : Callee) (vs : List Val) (s : State) → watched costs p sp (mapped enter S vs f s) ≡ watched costs p sp (and_then (with_known (rows_of (all_entries vs)) (each enter S f) s) (λ ws. stop (outcome_of (Gives (ListV (items_of ws))))))
map_results costs p sp enter S f vs s = ap (watched costs p sp) (known_then (rows_of (all_entries vs)) (each enter S f) (λ ws. stop (outcome_of (Gives (ListV (items_of ws))))) s)

pub mapped_as : (costs : Costs) (p : Purse) (sp : Seen) (enter : Enter) (S : Scope) (us vs : List Val) (f : Callee) (s : State) → us ≡ vs → watched costs p sp (mapped enter S vs f s) ≡ watched costs p sp (mapped enter S us f s)
mapped_as costs p sp enter S us vs f s h = ap (λ l. watched costs p sp (mapped enter S l f s)) (sym h)

-- ---- what is kept, by the results

after_after : {A B C : Type 0} (l : Watched A) (f : A → State → Purse → Seen → Watched B) (g : B → State → Purse → Seen → Watched C) → after (after l f) g ≡ after l (λ v s p sp. after (f v s p sp) g)
after_after (Gave v s p sp) f g = refl
after_after (Threw v s p sp) f g = refl
after_after (AbortedBy why p sp) f g = refl
after_after (Passed over p sp) f g = refl
after_after (Lost p sp) f g = refl

after_same : {A B : Type 0} (l : Watched A) (f g : A → State → Purse → Seen → Watched B) → ((v : A) (s : State) (p : Purse) (sp : Seen) → f v s p sp ≡ g v s p sp) → after l f ≡ after l g
after_same (Gave v s p sp) f g h = h v s p sp
after_same (Threw v s p sp) f g h = refl
after_same (AbortedBy why p sp) f g h = refl
after_same (Passed over p sp) f g h = refl
after_same (Lost p sp) f g h = refl

next_sifted : (enter : Enter) (S : Scope) (f : Callee) (x : Val) (xs : List Val) (s : State) → sifted enter S f (x ∷ xs) s ≡ and_then (enter S f (x ∷ []) s) (λ v t. and_then (sifted enter S f xs t) (λ ys. kept_if v x ys))
unfolding sifted
next_sifted enter S f x xs s = refl

none_sifted : (enter : Enter) (S : Scope) (f : Callee) (s : State) → sifted enter S f [] s ≡ give [] s
unfolding sifted
none_sifted enter S f s = refl

-- each entry as the only argument
abbrev pub alone : List Val → List (List Val)
alone [] = []
alone (x ∷ xs) = (x ∷ []) ∷ alone xs

-- the entries at which the result is true
abbrev pub kept : List Val → List Val → State → Answer (List Val)
kept xs vs s = with_known (flags_of vs) (λ bs. give (chosen xs bs)) s

flag_more : (x : Val) (xs : List Val) (b : Bool) (o : Option (List Bool)) (s : State) → with_known (option_map (λ bs. b ∷ bs) o) (λ bs. give (chosen (x ∷ xs) bs)) s ≡ and_then (with_known o (λ bs. give (chosen xs bs)) s) (λ ys. kept_if (BoolV b) x ys)
unfolding and_then stop
flag_more x xs true None s = refl
flag_more x xs false None s = refl
flag_more x xs true (Some bs) s = refl
flag_more x xs false (Some bs) s = refl

no_flag : (v x : Val) (xs : List Val) (o : Option (List Bool)) (s : State) → ((ys : List Val) (t : State) → kept_if v x ys t ≡ stop Wrong t) → stop {A = List Val} Wrong s ≡ and_then (with_known o (λ bs. give (chosen xs bs)) s) (λ ys. kept_if v x ys)
unfolding and_then stop
no_flag v x xs None s h = refl
no_flag v x xs (Some bs) s h = sym (h (chosen xs bs) s)

kept_more : (x : Val) (xs : List Val) (v : Val) (vs : List Val) (s : State) → kept (x ∷ xs) (v ∷ vs) s ≡ and_then (kept xs vs s) (λ ys. kept_if v x ys)
kept_more x xs (BoolV b) vs s = flag_more x xs b (flags_of vs) s
kept_more x xs (IntV z) vs s = no_flag (IntV z) x xs (flags_of vs) s (λ ys t. refl)
kept_more x xs (UintV n) vs s = no_flag (UintV n) x xs (flags_of vs) s (λ ys t. refl)
kept_more x xs (BuffV l) vs s = no_flag (BuffV l) x xs (flags_of vs) s (λ ys t. refl)
kept_more x xs (AsciiV l) vs s = no_flag (AsciiV l) x xs (flags_of vs) s (λ ys t. refl)
kept_more x xs (Utf8V l) vs s = no_flag (Utf8V l) x xs (flags_of vs) s (λ ys t. refl)
kept_more x xs (PrincipalV l) vs s = no_flag (PrincipalV l) x xs (flags_of vs) s (λ ys t. refl)
kept_more x xs (ListV l) vs s = no_flag (ListV l) x xs (flags_of vs) s (λ ys t. refl)
kept_more x xs (TupleV l) vs s = no_flag (TupleV l) x xs (flags_of vs) s (λ ys t. refl)
kept_more x xs NoneV vs s = no_flag NoneV x xs (flags_of vs) s (λ ys t. refl)
kept_more x xs (SomeV w) vs s = no_flag (SomeV w) x xs (flags_of vs) s (λ ys t. refl)
kept_more x xs (ResponseV good w) vs s = no_flag (ResponseV good w) x xs (flags_of vs) s (λ ys t. refl)

module _ (costs : Costs) (enter : Enter) (S : Scope) (f : Callee) where
  abbrev Known : List Val → Type 0
  Known xs = (s : State) (p : Purse) (sp : Seen) → watched costs p sp (sifted enter S f xs s) ≡ after (watched costs p sp (each enter S f (alone xs) s)) (λ vs t q sq. watched costs q sq (kept xs vs t))

  one : (x : Val) (xs : List Val) → Known xs → (v : Val) (t : State) (q : Purse) (sq : Seen) → watched costs q sq (and_then (sifted enter S f xs t) (λ ys. kept_if v x ys)) ≡ after (watched costs q sq (and_then (each enter S f (alone xs) t) (λ vs u. give (v ∷ vs) u))) (λ vs u r sr. watched costs r sr (kept (x ∷ xs) vs u))
  one x xs known v t q sq =
      watched-then costs q sq (sifted enter S f xs t) (λ ys. kept_if v x ys)
      ∙ ap (λ l. after l (λ ys u r sr. watched costs r sr (kept_if v x ys u))) (known t q sq)
      ∙ after_after (watched costs q sq (each enter S f (alone xs) t)) (λ vs u r sr. watched costs r sr (kept xs vs u)) (λ ys u r sr. watched costs r sr (kept_if v x ys u))
      ∙ after_same (watched costs q sq (each enter S f (alone xs) t)) (λ vs u r sr. after (watched costs r sr (kept xs vs u)) (λ ys w z sz. watched costs z sz (kept_if v x ys w))) (λ vs u r sr. after (watched costs r sr (give (v ∷ vs) u)) (λ ws w z sz. watched costs z sz (kept (x ∷ xs) ws w)))
      (λ vs u r sr. sym (watched-then costs r sr (kept xs vs u) (λ ys. kept_if v x ys)) ∙ ap (watched costs r sr) (sym (kept_more x xs v vs u)) ∙ sym (ap (λ l. after l (λ ws w z sz. watched costs z sz (kept (x ∷ xs) ws w))) (watched-stop costs r sr (Given (v ∷ vs)) u)))
      ∙ sym (after_after (watched costs q sq (each enter S f (alone xs) t)) (λ vs u r sr. watched costs r sr (give (v ∷ vs) u)) (λ ws w z sz. watched costs z sz (kept (x ∷ xs) ws w)))
      ∙ ap (λ l. after l (λ ws w z sz. watched costs z sz (kept (x ∷ xs) ws w))) (sym (watched-then costs q sq (each enter S f (alone xs) t) (λ vs u. give (v ∷ vs) u)))

  -- the results at all entries, and then what they keep
  sifted_by : (xs : List Val) → Known xs
  sifted_by [] s p sp =
      ap (watched costs p sp) (none_sifted enter S f s)
      ∙ sym (ap (λ l. after l (λ vs t q sq. watched costs q sq (kept [] vs t))) (ap (watched costs p sp) (none_each enter S f s) ∙ watched-stop costs p sp (Given []) s))
  sifted_by (x ∷ xs) s p sp =
      ap (watched costs p sp) (next_sifted enter S f x xs s)
      ∙ watched-then costs p sp (enter S f (x ∷ []) s) (λ v t. and_then (sifted enter S f xs t) (λ ys. kept_if v x ys))
      ∙ after_same (watched costs p sp (enter S f (x ∷ []) s)) (λ v t q sq. watched costs q sq (and_then (sifted enter S f xs t) (λ ys. kept_if v x ys))) (λ v t q sq. after (watched costs q sq (and_then (each enter S f (alone xs) t) (λ vs u. give (v ∷ vs) u))) (λ vs u r sr. watched costs r sr (kept (x ∷ xs) vs u))) (one x xs (sifted_by xs))
      ∙ sym (after_after (watched costs p sp (enter S f (x ∷ []) s)) (λ v t q sq. watched costs q sq (and_then (each enter S f (alone xs) t) (λ vs u. give (v ∷ vs) u))) (λ vs u r sr. watched costs r sr (kept (x ∷ xs) vs u)))
      ∙ ap (λ l. after l (λ vs u r sr. watched costs r sr (kept (x ∷ xs) vs u))) (sym (watched-then costs p sp (enter S f (x ∷ []) s) (λ v t. and_then (each enter S f (alone xs) t) (λ vs u. give (v ∷ vs) u))) ∙ ap (watched costs p sp) (sym (next_each enter S f (x ∷ []) (alone xs) s)))

  alone_beside : (xs : List Val) → side_by_side xs [] ≡ alone xs
  alone_beside [] = refl
  alone_beside (x ∷ xs) = ap (λ l. (x ∷ []) ∷ l) (alone_beside xs)

  kept_then : (o : Option (List Bool)) (v : Val) (xs : List Val) (s : State) → and_then (with_known o (λ bs. give (chosen xs bs)) s) (λ ys. stop (outcome_of (Gives (like v ys)))) ≡ with_known o (λ bs. stop (outcome_of (Gives (like v (chosen xs bs))))) s
  unfolding and_then stop
  kept_then None v xs s = refl
  kept_then (Some bs) v xs s = refl

  kept_is : (o : Option (List Bool)) (e : Option (List Val)) (v : Val) (xs : List Val) (s : State) → e ≡ Some xs → with_known o (λ bs. stop (outcome_of (Gives (like v (chosen xs bs))))) s ≡ with_known o (λ bs. stop (outcome_of (on_entries (λ ys. Gives (like v (chosen ys bs))) e))) s
  kept_is o e v xs s h = ap (λ k. with_known o (λ bs. stop (outcome_of (on_entries (λ ys. Gives (like v (chosen ys bs))) k))) s) (sym h)

  filter_of : (e : Option (List Val)) (v : Val) (s : State) (p : Purse) (sp : Seen) → watched costs p sp (with_known e (λ xs t. and_then (sifted enter S f xs t) (λ ys. stop (outcome_of (Gives (like v ys))))) s) ≡ after (watched costs p sp (with_known (rows_of (and_entries e (Some []))) (each enter S f) s)) (λ vs t q sq. watched costs q sq (with_known (flags_of vs) (λ bs. stop (outcome_of (on_entries (λ ys. Gives (like v (chosen ys bs))) e))) t))
  filter_of None v s p sp =
      watched-stop costs p sp Wrong s ∙ sym (ap (λ l. after l (λ vs t q sq. watched costs q sq (with_known (flags_of vs) (λ bs. stop Wrong) t))) (watched-stop {A = List Val} costs p sp Wrong s))
  filter_of (Some xs) v s p sp =
      watched-then costs p sp (sifted enter S f xs s) (λ ys. stop (outcome_of (Gives (like v ys))))
      ∙ ap (λ l. after l (λ ys t q sq. watched costs q sq (stop (outcome_of (Gives (like v ys))) t))) (sifted_by xs s p sp)
      ∙ after_after (watched costs p sp (each enter S f (alone xs) s)) (λ vs t q sq. watched costs q sq (kept xs vs t)) (λ ys t q sq. watched costs q sq (stop (outcome_of (Gives (like v ys))) t))
      ∙ after_same (watched costs p sp (each enter S f (alone xs) s)) (λ vs t q sq. after (watched costs q sq (kept xs vs t)) (λ ys u r sr. watched costs r sr (stop (outcome_of (Gives (like v ys))) u))) (λ vs t q sq. watched costs q sq (with_known (flags_of vs) (λ bs. stop (outcome_of (Gives (like v (chosen xs bs))))) t))
      (λ vs t q sq. sym (watched-then costs q sq (kept xs vs t) (λ ys. stop (outcome_of (Gives (like v ys))))) ∙ ap (watched costs q sq) (kept_then (flags_of vs) v xs t))
      ∙ ap (λ rows. after (watched costs p sp (each enter S f rows s)) (λ vs t q sq. watched costs q sq (with_known (flags_of vs) (λ bs. stop (outcome_of (Gives (like v (chosen xs bs))))) t))) (sym (alone_beside xs))

  -- filter is the results of its function at each entry, and then what they keep
  pub filter_results : (v : Val) (vs : List Val) (s : State) (p : Purse) (sp : Seen) → vs ≡ v ∷ [] → watched costs p sp (filtered enter S v f s) ≡ after (watched costs p sp (with_known (rows_of (all_entries vs)) (each enter S f) s)) (λ ws t q sq. watched costs q sq (kept_of v ws t))
  filter_results v vs s p sp h = filter_of (entries_of v) v s p sp ∙ ap (λ l. after (watched costs p sp (with_known (rows_of (all_entries l)) (each enter S f) s)) (λ ws t q sq. watched costs q sq (kept_of v ws t))) (sym h)

  pub filter_ends : (v : Val) (vs : List Val) (s : State) (p : Purse) (sp : Seen) (ws us : List Val) (t : State) (q : Purse) (sq : Seen) (r : Result Val Stop) → vs ≡ v ∷ [] → watched costs p sp (with_known (rows_of (all_entries vs)) (each enter S f) s) ≡ Gave ws t q sq → us ≡ ws → runs.Ends (limited costs q (kept_of v us t)) r q t → Ends (watched costs p sp (filtered enter S v f s)) r q sq t
  filter_ends v vs s p sp ws us t q sq r h gave same ends =
      ends_so _ _ r q sq t (filter_results v vs s p sp h ∙ ap (λ l. after l (λ xs u z sz. watched costs z sz (kept_of v xs u))) gave ∙ ap (λ xs. watched costs q sq (kept_of v xs t)) (sym same))
      (unseen_ends costs q q sq (kept_of v us t) r t (kept_unseen v us t costs q) ends)

  pub filter_stops : (v : Val) (vs : List Val) (s : State) (p : Purse) (sp : Seen) (e : Stop) (q : Purse) (sq : Seen) (t : State) → vs ≡ v ∷ [] → Stops (watched costs p sp (with_known (rows_of (all_entries vs)) (each enter S f) s)) e q sq t → Stops (watched costs p sp (filtered enter S v f s)) e q sq t
  filter_stops v vs s p sp e q sq t h stops =
      stops_eq _ _ e q sq t (filter_results v vs s p sp h) (stops_after (watched costs p sp (with_known (rows_of (all_entries vs)) (each enter S f) s)) (λ ws u z sz. watched costs z sz (kept_of v ws u)) e q sq t (λ ws u z sz. starts costs z sz (kept_of v ws u)) stops)
