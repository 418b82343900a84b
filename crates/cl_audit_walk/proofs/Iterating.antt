-- map, filter and fold, and natives that are given by name.
use Rattle.std.proofs.Common.{◌≡◌, ◌≢◌, ℕ, zero, suc, ◌+◌, ◌-◌, List, [], ◌∷◌, ◌++◌, Bool, true, false, option_map, Option, Some, None, Result, Ok, Err, refl, sym, ap, ◌∙◌, subst, arith}
use Rattle.cl_sexpr.specs.declared.sexpr.Span.{Span}
use Rattle.cl_values.specs.Computed.{Computed, Gives, Undefined}
use Rattle.cl_values.specs.Sequences.{entries_of, like, on_entries}
use Rattle.cl_values.specs.Tree.{Tree as Val, IntV, UintV, BoolV, BuffV, AsciiV, Utf8V, PrincipalV, ListV, TupleV, NoneV, SomeV, ResponseV, items_of}
use Rattle.cl_forms.specs.Heads.{Row}
use Rattle.cl_events.specs.State.{State}
use Rattle.cl_operands.specs.Rows.{width_of, rows_from, entries_from}
use Rattle.cl_operands.specs.Sieved.{flags_of, chosen, sieved_if, sieved_by}
use Rattle.cl_operands.proofs.RowLaws.{rows_known, rows_unknown, entries_known, entries_unknown}
use Rattle.cl_meaning.specs.Answers.{Answer, Outcome, Wrong, Deeper, stop, give, wrong, and_then, ending, with_known, outcome_of}
use Rattle.cl_meaning.specs.Calls.{native_form, application}
use Rattle.cl_meaning.specs.Meaning.{means, applied}
use Rattle.cl_meaning.specs.Scope.{Scope as Around, Callee, ByName, Enter}
use Rattle.cl_meaning.specs.Sequences.{all_entries, and_entries, rows_of, side_by_side, each, mapped, sifted, kept_if, filtered, folded, fold_of}
use Rattle.cl_meaning.proofs.Equations.{applied_zero, applied_step}
use Rattle.cl_walks.specs.declared.stop.Stop.{Stop}
use Rattle.cl_walks.specs.declared.stop.Stop.TheVariants as stops
use Rattle.cl_walks.specs.Walked.{Gave, after, looked, walked}
use Rattle.cl_walks.proofs.WalkLaws.{walked-stop, walked-ending}
use Rattle.cl_audit_steps.specs.declared.scope.Callee.{Callee as CalleeOfCode}
use Rattle.cl_audit_steps.specs.declared.scope.Scope.{Scope}
use Rattle.cl_audit_steps.specs.Seen.{seen, callee_seen}
use Rattle.cl_audit_steps.proofs.SequenceLaws.{then_then, given_then}
use Rattle.cl_audit_walk.specs.declared.cursor.Cursor.{Cursor}
use Rattle.cl_audit_walk.specs.declared.run.Run.{Run}
use Rattle.cl_audit_walk.specs.Looking.{look}
use Rattle.cl_audit_walk.specs.Evaluates.{rules, book, Evaluates, Computes}
use Rattle.cl_audit_walk.specs.Turns.{in_turn, results_of}
use Rattle.cl_audit_walk.proofs.Rules.{Handed, hand, stops_after, stops_eq, so, goes_on, stopped, gives, is_wrong}

-- ---- what is computed

-- an end that a native's value is
pub computes : (S : Scope) (o : Outcome Val) (old : Run) (r : Result Val Stop) → Computes o r → Evaluates S (stop o) old r old
computes S o old (Ok v) h = record { ends = walked-stop (rules S) (book old) o old.world.stack.top ∙ ap (λ p. Rattle.cl_walks.specs.Walked.ended_on (Rattle.cl_walks.specs.Walked.Going (book old)) p old.world.stack.top) h; below = refl }
computes S o old (Err (stops.Thrown v)) h = absurd h
computes S o old (Err (stops.Aborted why)) h = record { ends = walked-stop (rules S) (book old) o old.world.stack.top ∙ ap (λ p. Rattle.cl_walks.specs.Walked.ended_on (Rattle.cl_walks.specs.Walked.Going (book old)) p old.world.stack.top) h; below = refl }
computes S o old (Err (stops.CostLimit over)) h = absurd h
computes S o old (Err stops.Stuck) h = record { ends = walked-stop (rules S) (book old) o old.world.stack.top ∙ ap (λ p. Rattle.cl_walks.specs.Walked.ended_on (Rattle.cl_walks.specs.Walked.Going (book old)) p old.world.stack.top) h; below = refl }
computes S o old (Err stops.NoMemory) h = record { ends = tt; below = refl }

-- ---- natives by name

named_native : (n : ℕ) (A : Around) (row : Row) (at : Span) (vs : List Val) (s : State) → application (means n) A (ByName row at) vs s ≡ ending at (native_form row.head row.cost vs s)
unfolding application
named_native n A row at vs s = refl

module _ (S : Scope) (d : ℕ) (A : Around) (row : Row) (at : Span) (vs : List Val) where
  named_down : (s : State) → d ≢ 0 → applied d A (ByName row at) vs s ≡ ending at (native_form row.head row.cost vs s)
  named_down s deep = down d deep
    where
      down : (d : ℕ) → d ≢ 0 → applied d A (ByName row at) vs s ≡ ending at (native_form row.head row.cost vs s)
      down zero h = absurd (h refl)
      down (suc n) h = applied_step n A (ByName row at) vs s ∙ named_native n A row at vs s

  pub none_named : (old : Run) → d ≡ 0 → Evaluates S (applied d A (ByName row at) vs) old (Err stops.Stuck) old
  none_named old h = so S _ (stop Deeper) old old (Err stops.Stuck) (λ s. ap (λ n. applied n A (ByName row at) vs s) h ∙ applied_zero A (ByName row at) vs s) (record { ends = walked-stop (rules S) (book old) Deeper old.world.stack.top; below = refl })

  pub named_stopped : (x : Stop) (old mid : Run) (r : Result Val Stop) → d ≢ 0 → Handed r x → Evaluates S (native_form row.head row.cost vs) old (Err x) mid → Evaluates S (applied d A (ByName row at) vs) old r mid
  named_stopped x old mid r deep h f = record {
    ends = hand _ r x (book mid) mid.world.stack.top h (stops_eq _ _ x (book mid) mid.world.stack.top
        (ap (walked (rules S) (book old)) (named_down old.world.stack.top deep) ∙ walked-ending (rules S) (book old) at (native_form row.head row.cost vs old.world.stack.top))
        (stops_after _ _ x (book mid) mid.world.stack.top f.ends));
    below = f.below;
  }

  pub named_looked : (v : Val) (c : Cursor) (old mid : Run) → d ≢ 0 → Evaluates S (native_form row.head row.cost vs) old (Ok v) mid → c ≡ look at v mid.cursor → Evaluates S (applied d A (ByName row at) vs) old (Ok v) (record mid { cursor = c })
  named_looked v c old mid deep f seen = record {
    ends = ap (walked (rules S) (book old)) (named_down old.world.stack.top deep) ∙ walked-ending (rules S) (book old) at (native_form row.head row.cost vs old.world.stack.top)
        ∙ ap (λ w. after w (λ u s b. Gave u s (looked (rules S) at u b))) f.ends
        ∙ ap (λ k. Gave v mid.world.stack.top (record { purse = mid.meter; kept = k })) (sym seen);
    below = f.below;
  }

pub at_callee : (S : Scope) (d : ℕ) (A : Around) (f g : CalleeOfCode) (vs : List Val) (old new : Run) (r : Result Val Stop) → f ≡ g → Evaluates S (applied d A (callee_seen g) vs) old r new → Evaluates S (applied d A (callee_seen f) vs) old r new
at_callee S d A f g vs old new r h e = subst (λ k. Evaluates S (applied d A (callee_seen k) vs) old r new) (sym h) e

-- ---- results at entries

each_in_turn : (N : Enter) (A : Around) (f : Callee) (rows : List (List Val)) (s : State) → each N A f rows s ≡ in_turn (N A f) rows s
unfolding each in_turn
each_in_turn N A f [] s = refl
each_in_turn N A f (r ∷ rows) s = λ j. and_then (N A f r s) (λ v t. and_then (each_in_turn N A f rows t j) (λ vs u. give (v ∷ vs) u))

pub results_known : (N : Enter) (A : Around) (f : Callee) (vs : List Val) (n : ℕ) (s : State) → width_of (all_entries vs) ≡ Some n → results_of N A f vs s ≡ in_turn (N A f) (rows_from 0 vs) s
results_known N A f vs n s h = ap (λ o. with_known o (each N A f) s) (rows_known n vs h) ∙ each_in_turn N A f (rows_from 0 vs) s

pub results_unknown : (N : Enter) (A : Around) (f : Callee) (vs : List Val) (s : State) → width_of (all_entries vs) ≡ None → results_of N A f vs s ≡ wrong s
results_unknown N A f vs s h = ap (λ o. with_known o (each N A f) s) (rows_unknown (all_entries vs) h)

known_then : {A B C : Type 0} (o : Option A) (first : A → State → Answer B) (k : B → State → Answer C) (s : State) → with_known o (λ a t. and_then (first a t) k) s ≡ and_then (with_known o first s) k
unfolding and_then stop
known_then None first k s = refl
known_then (Some a) first k s = refl

pub map_results : (N : Enter) (A : Around) (f : Callee) (vs : List Val) (s : State) → mapped N A vs f s ≡ and_then (results_of N A f vs s) (λ ws. stop (outcome_of (Gives (ListV (items_of ws)))))
map_results N A f vs s = known_then (rows_of (all_entries vs)) (each N A f) (λ ws. stop (outcome_of (Gives (ListV (items_of ws))))) s

pub mapped_at : (S : Scope) (N : Enter) (A : Around) (f : Callee) (us vs : List Val) (old new : Run) (r : Result Val Stop) → us ≡ vs → Evaluates S (mapped N A us f) old r new → Evaluates S (mapped N A vs f) old r new
mapped_at S N A f us vs old new r h e = subst (λ l. Evaluates S (mapped N A l f) old r new) h e

-- ---- filter

next_sifted : (N : Enter) (A : Around) (f : Callee) (x : Val) (xs : List Val) (s : State) → sifted N A f (x ∷ xs) s ≡ and_then (N A f (x ∷ []) s) (λ v t. and_then (sifted N A f xs t) (λ ys. kept_if v x ys))
unfolding sifted
next_sifted N A f x xs s = refl

none_sifted : (N : Enter) (A : Around) (f : Callee) (s : State) → sifted N A f [] s ≡ give [] s
unfolding sifted
none_sifted N A f s = refl

next_each : (N : Enter) (A : Around) (f : Callee) (r : List Val) (rows : List (List Val)) (s : State) → each N A f (r ∷ rows) s ≡ and_then (N A f r s) (λ v t. and_then (each N A f rows t) (λ vs u. give (v ∷ vs) u))
unfolding each
next_each N A f r rows s = refl

none_each : (N : Enter) (A : Around) (f : Callee) (s : State) → each N A f [] s ≡ give [] s
unfolding each
none_each N A f s = refl

-- each entry as the only argument
abbrev alone : List Val → List (List Val)
alone [] = []
alone (x ∷ xs) = (x ∷ []) ∷ alone xs

-- the entries at which the result is true
abbrev kept : List Val → List Val → State → Answer (List Val)
kept xs vs s = with_known (flags_of vs) (λ bs. give (chosen xs bs)) s

flag_more : (x : Val) (xs : List Val) (b : Bool) (o : Option (List Bool)) (s : State) → with_known (option_map (λ bs. b ∷ bs) o) (λ bs. give (chosen (x ∷ xs) bs)) s ≡ and_then (with_known o (λ bs. give (chosen xs bs)) s) (λ ys. kept_if (BoolV b) x ys)
unfolding and_then stop
flag_more x xs true None s = refl
flag_more x xs false None s = refl
flag_more x xs true (Some bs) s = refl
flag_more x xs false (Some bs) s = refl

no_flag : (v x : Val) (xs : List Val) (o : Option (List Bool)) (s : State) → ((ys : List Val) (t : State) → kept_if v x ys t ≡ stop Wrong t) → stop {A = List Val} Wrong s ≡ and_then (with_known o (λ bs. give (chosen xs bs)) s) (λ ys. kept_if v x ys)
unfolding and_then stop
no_flag v x xs None s h = refl
no_flag v x xs (Some bs) s h = sym (h (chosen xs bs) s)

kept_more : (x : Val) (xs : List Val) (v : Val) (vs : List Val) (s : State) → kept (x ∷ xs) (v ∷ vs) s ≡ and_then (kept xs vs s) (λ ys. kept_if v x ys)
kept_more x xs (BoolV b) vs s = flag_more x xs b (flags_of vs) s
kept_more x xs (IntV z) vs s = no_flag (IntV z) x xs (flags_of vs) s (λ ys t. refl)
kept_more x xs (UintV n) vs s = no_flag (UintV n) x xs (flags_of vs) s (λ ys t. refl)
kept_more x xs (BuffV l) vs s = no_flag (BuffV l) x xs (flags_of vs) s (λ ys t. refl)
kept_more x xs (AsciiV l) vs s = no_flag (AsciiV l) x xs (flags_of vs) s (λ ys t. refl)
kept_more x xs (Utf8V l) vs s = no_flag (Utf8V l) x xs (flags_of vs) s (λ ys t. refl)
kept_more x xs (PrincipalV l) vs s = no_flag (PrincipalV l) x xs (flags_of vs) s (λ ys t. refl)
kept_more x xs (ListV l) vs s = no_flag (ListV l) x xs (flags_of vs) s (λ ys t. refl)
kept_more x xs (TupleV l) vs s = no_flag (TupleV l) x xs (flags_of vs) s (λ ys t. refl)
kept_more x xs NoneV vs s = no_flag NoneV x xs (flags_of vs) s (λ ys t. refl)
kept_more x xs (SomeV w) vs s = no_flag (SomeV w) x xs (flags_of vs) s (λ ys t. refl)
kept_more x xs (ResponseV good w) vs s = no_flag (ResponseV good w) x xs (flags_of vs) s (λ ys t. refl)

-- what is kept of known entries
abbrev chosen_if : Val → List Val → Option (List Bool) → Computed
chosen_if v xs None = Undefined
chosen_if v xs (Some bs) = Gives (like v (chosen xs bs))

wrong_then : (s : State) (k : List Val → State → Answer Val) → and_then (stop {A = List Val} Wrong s) k ≡ stop Wrong s
unfolding and_then stop
wrong_then s k = refl

module _ (N : Enter) (A : Around) (f : Callee) where
  abbrev Sifted : List Val → Type 0
  Sifted xs = (s : State) → sifted N A f xs s ≡ and_then (each N A f (alone xs) s) (kept xs)

  sifted_more : (x : Val) (xs : List Val) → Sifted xs → (v : Val) (t : State) → and_then (sifted N A f xs t) (λ ys. kept_if v x ys) ≡ and_then (and_then (each N A f (alone xs) t) (λ vs u. give (v ∷ vs) u)) (kept (x ∷ xs))
  sifted_more x xs known v t =
      ap (λ a. and_then a (λ ys. kept_if v x ys)) (known t) ∙ then_then (each N A f (alone xs) t) (kept xs) (λ ys. kept_if v x ys)
      ∙ (λ j. and_then (each N A f (alone xs) t) (λ vs u. (sym (kept_more x xs v vs u) ∙ sym (given_then (v ∷ vs) u (kept (x ∷ xs)))) j))
      ∙ sym (then_then (each N A f (alone xs) t) (λ vs u. give (v ∷ vs) u) (kept (x ∷ xs)))

  -- the results at all entries, and then what they keep
  sifted_by : (xs : List Val) (s : State) → sifted N A f xs s ≡ and_then (each N A f (alone xs) s) (kept xs)
  sifted_by [] s = none_sifted N A f s ∙ sym (ap (λ a. and_then a (kept [])) (none_each N A f s) ∙ given_then [] s (kept []))
  sifted_by (x ∷ xs) s =
      next_sifted N A f x xs s
      ∙ (λ j. and_then (N A f (x ∷ []) s) (λ v t. sifted_more x xs (sifted_by xs) v t j))
      ∙ sym (ap (λ a. and_then a (kept (x ∷ xs))) (next_each N A f (x ∷ []) (alone xs) s) ∙ then_then (N A f (x ∷ []) s) _ (kept (x ∷ xs)))

  alone_beside : (xs : List Val) → side_by_side xs [] ≡ alone xs
  alone_beside [] = refl
  alone_beside (x ∷ xs) = ap (λ l. (x ∷ []) ∷ l) (alone_beside xs)

  kept_then : (o : Option (List Bool)) (v : Val) (xs : List Val) (s : State) → and_then (with_known o (λ bs. give (chosen xs bs)) s) (λ ys. stop (outcome_of (Gives (like v ys)))) ≡ stop (outcome_of (chosen_if v xs o)) s
  unfolding and_then stop
  kept_then None v xs s = refl
  kept_then (Some bs) v xs s = refl

  if_sieved : (o : Option (List Bool)) (v : Val) (xs : List Val) → Some xs ≡ entries_of v → chosen_if v xs o ≡ sieved_if v o
  if_sieved None v xs h = refl
  if_sieved (Some bs) v xs h = ap (on_entries (λ ys. Gives (like v (chosen ys bs)))) h

  filter_of : (e : Option (List Val)) (v : Val) (s : State) → e ≡ entries_of v → with_known e (λ xs t. and_then (sifted N A f xs t) (λ ys. stop (outcome_of (Gives (like v ys))))) s ≡ and_then (with_known (rows_of (and_entries e (Some []))) (each N A f) s) (λ vs. stop (outcome_of (sieved_by v vs)))
  filter_of None v s h = sym (wrong_then s (λ vs. stop (outcome_of (sieved_by v vs))))
  filter_of (Some xs) v s h =
      ap (λ a. and_then a (λ ys. stop (outcome_of (Gives (like v ys))))) (sifted_by xs s)
      ∙ then_then (each N A f (alone xs) s) (kept xs) (λ ys. stop (outcome_of (Gives (like v ys))))
      ∙ (λ j. and_then (each N A f (alone xs) s) (λ vs t. (kept_then (flags_of vs) v xs t ∙ ap (λ c. stop (outcome_of c) t) (if_sieved (flags_of vs) v xs h)) j))
      ∙ ap (λ rows. and_then (each N A f rows s) (λ vs. stop (outcome_of (sieved_by v vs)))) (sym (alone_beside xs))

  -- filter is the results at each entry, and then what they keep
  pub filter_results : (v : Val) (vs : List Val) (s : State) → vs ≡ v ∷ [] → filtered N A v f s ≡ and_then (results_of N A f vs s) (λ ws. stop (outcome_of (sieved_by v ws)))
  filter_results v vs s h = filter_of (entries_of v) v s refl ∙ ap (λ l. and_then (results_of N A f l s) (λ ws. stop (outcome_of (sieved_by v ws)))) (sym h)

-- what is kept, of the results as the code has them
pub kept_results : (v : Val) (us ws : List Val) (r : Result Val Stop) → us ≡ ws → Computes (outcome_of (sieved_by v us)) r → Computes (outcome_of (sieved_by v ws)) r
kept_results v us ws r h c = subst (λ l. Computes (outcome_of (sieved_by v l)) r) h c

-- ---- fold

module _ (S : Scope) (N : Enter) (A : Around) (f : Callee) where
  -- however the entries that are left end from here, so the fold ends from the start
  abbrev pub Folding : List Val → Val → List Val → Val → Run → Run → Type 0
  Folding all first rest so_far start here = (r : Result Val Stop) (new : Run) → Evaluates S (folded N A f rest so_far) here r new → Evaluates S (folded N A f all first) start r new

  pub folds_first : (all : List Val) (first : Val) (start : Run) → Folding all first all first start start
  folds_first all first start r new e = e

  one_folded : (x : Val) (xs : List Val) (v : Val) (s : State) → folded N A f (x ∷ xs) v s ≡ and_then (N A f (x ∷ v ∷ []) s) (folded N A f xs)
  unfolding folded
  one_folded x xs v s = refl

  none_folded : (v : Val) (s : State) → folded N A f [] v s ≡ give v s
  unfolding folded
  none_folded v s = refl

  next_fold : (rest xs : List Val) (x v : Val) (vs : List Val) (s : State) → rest ≡ x ∷ xs → vs ≡ x ∷ v ∷ [] → folded N A f rest v s ≡ and_then (N A f vs s) (folded N A f xs)
  next_fold rest xs x v vs s h k = ap (λ l. folded N A f l v s) h ∙ one_folded x xs v s ∙ ap (λ l. and_then (N A f l s) (folded N A f xs)) (sym k)

  pub fold_turn : (all rest xs : List Val) (first x v w : Val) (vs : List Val) (start here mid : Run) → rest ≡ x ∷ xs → vs ≡ x ∷ v ∷ [] → Folding all first rest v start here → Evaluates S (N A f vs) here (Ok w) mid → Folding all first xs w start mid
  fold_turn all rest xs first x v w vs start here mid h k onward e r new g =
      onward r new (so S _ _ here new r (λ s. next_fold rest xs x v vs s h k) (goes_on S (N A f vs) (folded N A f xs) w here mid new r e g))

  pub fold_stopped : (all rest xs : List Val) (first x v : Val) (e : Stop) (vs : List Val) (start here mid : Run) (r : Result Val Stop) → rest ≡ x ∷ xs → vs ≡ x ∷ v ∷ [] → Handed r e → Folding all first rest v start here → Evaluates S (N A f vs) here (Err e) mid → Evaluates S (folded N A f all first) start r mid
  fold_stopped all rest xs first x v e vs start here mid r h k handed onward f' =
      onward r mid (so S _ _ here mid r (λ s. next_fold rest xs x v vs s h k) (stopped S (N A f vs) (folded N A f xs) e here mid r handed f'))

  pub fold_end : (all rest : List Val) (first v : Val) (start here : Run) → rest ≡ [] → Folding all first rest v start here → Evaluates S (folded N A f all first) start (Ok v) here
  fold_end all rest first v start here h onward =
      onward (Ok v) here (so S _ _ here here (Ok v) (λ s. ap (λ l. folded N A f l v s) h ∙ none_folded v s) (gives S v v here refl))

  pub fold_known : (v first : Val) (o : Option ℕ) (n : ℕ) (old new : Run) (r : Result Val Stop) → o ≡ Some n → o ≡ option_map Rattle.std.proofs.Common.length (entries_of v) → Evaluates S (folded N A f (entries_from 0 v) first) old r new → Evaluates S (fold_of N A v first f) old r new
  fold_known v first o n old new r h k e = so S _ _ old new r (λ s. ap (λ p. with_known p (λ xs. folded N A f xs first) s) (entries_known n v o h k)) e

  pub fold_unknown : (v first : Val) (o : Option ℕ) (old : Run) → o ≡ None → o ≡ option_map Rattle.std.proofs.Common.length (entries_of v) → Evaluates S (fold_of N A v first f) old (Err stops.Stuck) old
  fold_unknown v first o old h k = so S _ (stop Wrong) old old (Err stops.Stuck) (λ s. ap (λ p. with_known p (λ xs. folded N A f xs first) s) (entries_unknown v o h k)) (is_wrong S old)
