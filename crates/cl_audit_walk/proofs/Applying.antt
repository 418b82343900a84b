-- Names, frames, applications and bindings.
use Rattle.std.proofs.Common.{◌≡◌, ◌≢◌, ℕ, zero, suc, ◌<◌, ◌≤◌, ◌+◌, ◌-◌, true, false, List, [], ◌∷◌, ◌++◌, length, get_or, drop, Option, Some, None, Result, Ok, Err, refl, sym, ap, ◌∙◌, subst, arith, append_assoc, length-drop}
use Rattle.std.proofs.lemmas.List.{append-nil, drop_all}
use Rattle.cl_costs.specs.Tables.{function_of}
use Rattle.cl_types.specs.Types.{PlainType}
use Rattle.cl_types.specs.declared.sized.Access.{Access}
use Rattle.cl_types.specs.declared.sized.Access.TheVariants.{Public, ReadOnly, Private}
use Rattle.cl_shapes.specs.declared.name.CostName.TheVariants.{Call, Bind}
use Rattle.cl_sexpr.specs.Tree.{Tree}
use Rattle.cl_values.proofs.Lists.{next_part}
use Rattle.cl_values.specs.Tree.{Tree as Val}
use Rattle.cl_values.specs.Wire.{size_of}
use Rattle.cl_forms.specs.Shapes.{binding_of}
use Rattle.cl_events.specs.State.{State}
use Rattle.cl_state.specs.Stack.{Stack, rest_of, pushed}
use Rattle.cl_meaning.specs.Answers.{Answer, Given, Deeper, Wrong, stop, give, charged, and_then, returning, with_known}
use Rattle.cl_meaning.specs.Limits.{Charge}
use Rattle.cl_meaning.specs.Deployed.{Function}
use Rattle.cl_meaning.specs.Scope.{Scope as Around, BoundValues, Take, OwnFunction, parts, binding, with_bound}
use Rattle.cl_meaning.specs.Control.{let_in, last_of}
use Rattle.cl_meaning.specs.Calls.{bound_to, body_in, closing, function_form, application}
use Rattle.cl_meaning.specs.Meaning.{means, applied}
use Rattle.cl_meaning.proofs.Equations.{applied_zero, applied_step}
use Rattle.cl_walks.specs.declared.stop.Stop.{Stop}
use Rattle.cl_walks.specs.declared.stop.Stop.TheVariants as stops
use Rattle.cl_walks.specs.Walked.{Gave, AbortedBy, Passed, Lost, returned, walked}
use Rattle.cl_walks.specs.Ends.{Stops, Ends, cause}
use Rattle.cl_walks.proofs.WalkLaws.{walked-stop, walked-then, walked-returning, then_gave}
use Rattle.cl_audit_steps.specs.declared.scope.Scope.{Scope}
use Rattle.cl_audit_steps.specs.Seen.{seen}
use Rattle.cl_audit_steps.specs.Steps.{behind}
use Rattle.cl_audit_walk.specs.declared.run.Run.{Run}
use Rattle.cl_audit_walk.specs.Looking.{look}
use Rattle.cl_audit_walk.specs.Evaluates.{rules, book, Evaluates, Pays}
use Rattle.cl_audit_walk.specs.Calls.{IsBound, is_public, ClosesAs, Closes, returned_result}
use Rattle.cl_audit_walk.proofs.Rules.{Handed, hand, stops_after, stops_eq, ends_eq, so, goes_on, stopped, paid, unpaid, is_wrong}

-- ---- other scopes

-- where the costs are the same
pub elsewhere : {A : Type 0} (S R : Scope) (f : State → Answer A) (old new : Run) (r : Result A Stop) → R.costs.now ≡ S.costs.now → Evaluates R f old r new → Evaluates S f old r new
elsewhere S R f old new r h e = record {
  ends = subst (λ k. Ends (walked (record { costs = function_of k; look = look }) (book old) (f old.world.stack.top)) r (book new) new.world.stack.top) h e.ends;
  below = e.below;
}

-- where the names are bound so
pub at_names : (S : Scope) (d : ℕ) (e : Tree) (b c : BoundValues) (old new : Run) (r : Result Val Stop) → b ≡ c → Evaluates S (means d (seen S b) e) old r new → Evaluates S (means d (seen S c) e) old r new
at_names S d e b c old new r h f = subst (λ x. Evaluates S (means d (seen S x) e) old r new) h f

pub at_parts : (S : Scope) (T : Take) (es : List Tree) (b c : BoundValues) (old new : Run) (r : Result (List Val) Stop) → b ≡ c → Evaluates S (parts T (seen S b) es) old r new → Evaluates S (parts T (seen S c) es) old r new
at_parts S T es b c old new r h f = subst (λ x. Evaluates S (parts T (seen S x) es) old r new) h f

-- ---- applications

pub at_values : (S : Scope) (d : ℕ) (A : Around) (f : Function) (vs ws : List Val) (old new : Run) (r : Result Val Stop) → vs ≡ ws → Evaluates S (applied d A (OwnFunction f) vs) old r new → Evaluates S (applied d A (OwnFunction f) ws) old r new
at_values S d A f vs ws old new r h e = subst (λ x. Evaluates S (applied d A (OwnFunction f) x) old r new) h e

pub at_bound : (S : Scope) (T : Take) (A : Around) (f : Function) (b c : BoundValues) (old new : Run) (r : Result Val Stop) → b ≡ c → Evaluates S (body_in T A f b) old r new → Evaluates S (body_in T A f c) old r new
at_bound S T A f b c old new r h e = subst (λ x. Evaluates S (body_in T A f x) old r new) h e

module _ (S : Scope) (d : ℕ) (A : Around) (f : Function) (vs : List Val) where
  pub none_deeper : (old : Run) → d ≡ 0 → Evaluates S (applied d A (OwnFunction f) vs) old (Err stops.Stuck) old
  none_deeper old h = so S _ (stop Deeper) old old (Err stops.Stuck) (λ s. ap (λ n. applied n A (OwnFunction f) vs s) h ∙ applied_zero A (OwnFunction f) vs s) (record { ends = walked-stop (rules S) (book old) Deeper old.world.stack.top; below = refl })

  pub entered : (c : Charge) (n : ℕ) (s : State) → d ≢ 0 → c ≡ (Call, n) → n ≡ length vs → applied d A (OwnFunction f) vs s ≡ behind (Some c) (bound_to (body_in (means (d - 1)) A f) [] f.params vs s)
  unfolding application function_form behind
  entered c n s deep is same = down d deep ∙ sym (ap (λ (x : Charge). charged x.0 x.1 (bound_to (body_in (means (d - 1)) A f) [] f.params vs s)) (is ∙ ap (λ m. (Call, m)) same))
    where
      down : (d : ℕ) → d ≢ 0 → applied d A (OwnFunction f) vs s ≡ charged Call (length vs) (bound_to (body_in (means (d - 1)) A f) [] f.params vs s)
      down zero h = absurd (h refl)
      down (suc d) h =
          let k : d ≡ suc d - 1 = omega arith in
          applied_step d A (OwnFunction f) vs s ∙ ap (λ n. charged Call (length vs) (bound_to (body_in (means n) A f) [] f.params vs s)) k

-- ---- parameters

binding_so : (c : Charge) (v : Val) → c ≡ (Bind, size_of v) → (a : Answer Val) → charged Bind (size_of v) a ≡ behind (Some c) a
unfolding behind
binding_so c v h a = sym (ap (λ (x : Charge). charged x.0 x.1 a) h)

module _ (S : Scope) (params : List (List ℕ × PlainType)) (values : List Val) where
  -- however the parameters that are left end from here, so all of them end from the start
  abbrev pub Binding : ℕ → List (List ℕ × Val) → Run → Run → Type 0
  Binding i own start here = (body : BoundValues → State → Answer Val) (r : Result Val Stop) (end : Run) → Evaluates S (bound_to body own (drop i params) (drop i values)) here r end → Evaluates S (bound_to body [] params values) start r end

  pub binds_first : (own : List (List ℕ × Val)) (start : Run) → own ≡ [] → Binding 0 own start start
  binds_first own start h body r end e = subst (λ o. Evaluates S (bound_to body o params values) start r end) h e

  one_more : (i : ℕ) (own : List (List ℕ × Val)) (p : List ℕ × PlainType) (v : Val) (body : BoundValues → State → Answer Val) (s : State) → i < length params → p ≡ get_or params i p → i < length values → v ≡ get_or values i v → bound_to body own (drop i params) (drop i values) s ≡ charged Bind (size_of v) (bound_to body (own ++ (p.0, v) ∷ []) (drop (i + 1) params) (drop (i + 1) values) s)
  unfolding bound_to
  one_more i own p v body s few is here at = λ j. bound_to body own (next_part params i p few is j) (next_part values i v here at j) s

  pub binds_turn : (i : ℕ) (own more : List (List ℕ × Val)) (p : List ℕ × PlainType) (v : Val) (c : Charge) (u : Unit {0}) (start here mid : Run) → i < length params → p ≡ get_or params i p → i < length values → v ≡ get_or values i v → c ≡ (Bind, size_of v) → more ≡ own ++ (p.0, v) ∷ [] → Pays S (Some c) here (Ok u) mid → Binding i own start here → Binding (i + 1) more start mid
  binds_turn i own more p v c u start here mid few is within at charge pushed pays leads body r end e =
      leads body r end (so S _ _ here end r (λ s. one_more i own p v body s few is within at ∙ binding_so c v charge (bound_to body (own ++ (p.0, v) ∷ []) (drop (i + 1) params) (drop (i + 1) values) s)) (paid S (Some c) _ u here mid end r pays (subst (λ o. Evaluates S (bound_to body o (drop (i + 1) params) (drop (i + 1) values)) mid r end) pushed e)))

  pub binds_unpaid : (i : ℕ) (own : List (List ℕ × Val)) (p : List ℕ × PlainType) (v : Val) (c : Charge) (e : Stop) (start here mid : Run) → i < length params → p ≡ get_or params i p → i < length values → v ≡ get_or values i v → c ≡ (Bind, size_of v) → Pays S (Some c) here (Err e) mid → Binding i own start here → (body : BoundValues → State → Answer Val) (r : Result Val Stop) (x : Stop) → r ≡ Err x → x ≡ e → Evaluates S (bound_to body [] params values) start r mid
  binds_unpaid i own p v c e start here mid few is within at charge pays leads body r x same handed =
      leads body r mid (so S _ _ here mid r (λ s. one_more i own p v body s few is within at ∙ binding_so c v charge (bound_to body (own ++ (p.0, v) ∷ []) (drop (i + 1) params) (drop (i + 1) values) s)) (unpaid S (Some c) _ e here mid r (x, same, handed) pays))

  pub binds_not : (old new : Run) (r : Result BoundValues Stop) (e : Stop) → Handed r e → ((body : BoundValues → State → Answer Val) (q : Result Val Stop) (x : Stop) → q ≡ Err x → x ≡ e → Evaluates S (bound_to body [] params values) old q new) → IsBound S params values old r new
  binds_not old new r e h f = subst (λ q. IsBound S params values old q new) (sym h.1) (λ body q x same handed. f body q x same (handed ∙ h.2))

  -- for want of memory
  pub binds_forgot : (old new : Run) → new.world.stack ≡ old.world.stack → (body : BoundValues → State → Answer Val) (r : Result Val Stop) (x : Stop) → r ≡ Err x → x ≡ stops.NoMemory → Evaluates S (bound_to body [] params values) old r new
  binds_forgot old new h body r x same handed = record { ends = hand _ r stops.NoMemory (book new) new.world.stack.top (x, same, handed) tt; below = ap (λ (t : Stack). t.below) h }

  -- a value too many
  pub binds_past : (i : ℕ) (own : List (List ℕ × Val)) (v : Val) (start here : Run) → length params ≤ i → i < length values → v ≡ get_or values i v → Binding i own start here → (body : BoundValues → State → Answer Val) (r : Result Val Stop) (x : Stop) → r ≡ Err x → x ≡ stops.Stuck → Evaluates S (bound_to body [] params values) start r here
  unfolding bound_to
  binds_past i own v start here past within at leads body r x same handed =
      leads body r here (subst (λ q. Evaluates S (bound_to body own (drop i params) (drop i values)) here q here) (sym (same ∙ ap Err handed)) (so S _ (stop Wrong) here here (Err stops.Stuck) (no_more (drop i params) (drop i values) (drop_all i params past) v (next_part values i v within at)) (is_wrong S here)))
    where
      no_more : (ps : List (List ℕ × PlainType)) (vs : List Val) → ps ≡ [] → (v : Val) → vs ≡ v ∷ drop (i + 1) values → (s : State) → bound_to body own ps vs s ≡ stop Wrong s
      no_more ps vs h v k s = λ j. bound_to body own (h j) (k j) s

  -- a value too few
  pub binds_short : (i : ℕ) (own : List (List ℕ × Val)) (start here : Run) → length values ≤ i → i < length params → Binding i own start here → (body : BoundValues → State → Answer Val) (r : Result Val Stop) (x : Stop) → r ≡ Err x → x ≡ stops.Stuck → Evaluates S (bound_to body [] params values) start r here
  unfolding bound_to
  binds_short i own start here past within leads body r x same handed =
      leads body r here (subst (λ q. Evaluates S (bound_to body own (drop i params) (drop i values)) here q here) (sym (same ∙ ap Err handed)) (so S _ (stop Wrong) here here (Err stops.Stuck) (λ s. ap (λ vs. bound_to body own (drop i params) vs s) (drop_all i values past) ∙ one_left (drop i params) left s) (is_wrong S here)))
    where
      left : 0 < length (drop i params)
      left =
          let whole : length (drop i params) ≡ length params - i = length-drop i params in
          omega (arith, whole, within)

      one_left : (ps : List (List ℕ × PlainType)) → 0 < length ps → (s : State) → bound_to body own ps [] s ≡ stop Wrong s
      one_left [] h s = absurd (omega arith)
      one_left (p ∷ ps) h s = refl

  -- all are bound
  pub binds_end : (i : ℕ) (own : List (List ℕ × Val)) (start here : Run) → length params ≤ i → length values ≤ i → Binding i own start here → (body : BoundValues → State → Answer Val) (r : Result Val Stop) (end : Run) → Evaluates S (body own) here r end → Evaluates S (bound_to body [] params values) start r end
  unfolding bound_to
  binds_end i own start here full past leads body r end e = leads body r end (so S _ (body own) here end r none_left e)
    where
      none_left : (s : State) → bound_to body own (drop i params) (drop i values) s ≡ body own s
      none_left s = λ j. bound_to body own (drop_all i params full j) (drop_all i values past j) s

-- ---- bodies

module _ (S : Scope) where
  returning_ends : (f : State → Answer Val) (old mid : Run) (r : Result Val Stop) → Evaluates S f old r mid → Evaluates S (λ s. returning (f s)) old (returned_result r) mid
  returning_ends f old mid r e = record { ends = ends_eq _ _ (returned_result r) (book mid) mid.world.stack.top (walked-returning (rules S) (book old) (f old.world.stack.top)) (ends_so r e.ends); below = e.below }
    where
      ends_so : (r : Result Val Stop) → Ends (walked (rules S) (book old) (f old.world.stack.top)) r (book mid) mid.world.stack.top → Ends (returned (walked (rules S) (book old) (f old.world.stack.top))) (returned_result r) (book mid) mid.world.stack.top
      ends_so (Ok v) h = ap returned h
      ends_so (Err (stops.Thrown v)) h = ap returned h
      ends_so (Err (stops.Aborted y)) h = ap returned h
      ends_so (Err (stops.CostLimit over)) h = ap returned h
      ends_so (Err stops.Stuck) h = ap returned h
      ends_so (Err stops.NoMemory) h = tt

  closing_other : (access : Access) (before : State) (v : Val) (s : State) → is_public access ≡ false → closing access before v s ≡ give v s
  closing_other Public before v s h = absurd cc
  closing_other ReadOnly before v s h = refl
  closing_other Private before v s h = refl

  -- of a function that isn't public
  pub other_ends : (access : Access) (f : State → Answer Val) (old mid : Run) (r x : Result Val Stop) → is_public access ≡ false → x ≡ returned_result r → Evaluates S f old r mid → Evaluates S (λ s. and_then (returning (f s)) (closing access s)) old x mid
  other_ends access f old mid r x other same e = subst (λ q. Evaluates S (λ s. and_then (returning (f s)) (closing access s)) old q mid) (sym same) (closes (returned_result r) (returning_ends f old mid r e))
    where
      closes : (q : Result Val Stop) → Evaluates S (λ s. returning (f s)) old q mid → Evaluates S (λ s. and_then (returning (f s)) (closing access s)) old q mid
      closes (Ok v) g = record {
        ends = then_gave (rules S) (book old) (book mid) (returning (f old.world.stack.top)) (closing access old.world.stack.top) v mid.world.stack.top g.ends
            ∙ ap (walked (rules S) (book mid)) (closing_other access old.world.stack.top v mid.world.stack.top other) ∙ walked-stop (rules S) (book mid) (Given v) mid.world.stack.top;
        below = g.below;
      }
      closes (Err e') g = record {
        ends = stops_eq _ _ e' (book mid) mid.world.stack.top (walked-then (rules S) (book old) (returning (f old.world.stack.top)) (closing access old.world.stack.top)) (stops_after (walked (rules S) (book old) (returning (f old.world.stack.top))) (λ v s c. walked (rules S) c (closing access old.world.stack.top v s)) e' (book mid) mid.world.stack.top g.ends);
        below = g.below;
      }

  public_one : (access : Access) → is_public access ≡ true → access ≡ Public
  public_one Public h = refl
  public_one ReadOnly h = absurd cc
  public_one Private h = absurd cc

  -- of a public one, whose body ran on a layer of its own
  module _ (f : State → Answer Val) (old up mid new : Run) (same_book : book up ≡ book old) (layer : up.world.stack ≡ pushed old.world.stack) (kept : book new ≡ book mid) where
    under : (r : Result Val Stop) → Evaluates S f up r mid → mid.world.stack.below ≡ old.world.stack.top ∷ old.world.stack.below
    under r e = e.below ∙ ap (λ (t : Stack). t.below) layer

    start_so : (r : Result Val Stop) → Evaluates S (λ s. returning (f s)) up r mid → Ends (walked (rules S) (book old) (returning (f old.world.stack.top))) r (book mid) mid.world.stack.top
    start_so r e = subst (λ b. Ends (walked (rules S) b (returning (f old.world.stack.top))) r (book mid) mid.world.stack.top) same_book (subst (λ (t : Stack). Ends (walked (rules S) (book up) (returning (f t.top))) r (book mid) mid.world.stack.top) layer e.ends)

    closed : (v : Val) (x : Result Val Stop) → ClosesAs (closing Public old.world.stack.top v mid.world.stack.top) x new.world.stack.top → Ends (walked (rules S) (book mid) (closing Public old.world.stack.top v mid.world.stack.top)) x (book new) new.world.stack.top
    closed v (Ok w) h = ap (walked (rules S) (book mid)) h ∙ walked-stop (rules S) (book mid) (Given w) new.world.stack.top ∙ ap (Gave w new.world.stack.top) (sym kept)
    closed v (Err (stops.Thrown w)) h = absurd h
    closed v (Err (stops.Aborted y)) h = absurd h
    closed v (Err (stops.CostLimit over)) h = absurd h
    closed v (Err stops.Stuck) h = ap (walked (rules S) (book mid)) h.1 ∙ walked-stop (rules S) (book mid) Wrong h.0 ∙ ap Lost (sym kept)
    closed v (Err stops.NoMemory) h = tt

    gave : (v : Val) (x : Result Val Stop) → mid.world.stack.below ≡ old.world.stack.top ∷ old.world.stack.below → Ends (walked (rules S) (book old) (returning (f old.world.stack.top))) (Ok v) (book mid) mid.world.stack.top → Closes (Ok v) mid.world.stack x new.world.stack → Evaluates S (λ s. and_then (returning (f s)) (closing Public s)) old x new
    gave v x below g k =
        let closes = k old.world.stack.top old.world.stack.below below in
        record {
          ends = ends_eq _ _ x (book new) new.world.stack.top (then_gave (rules S) (book old) (book mid) (returning (f old.world.stack.top)) (closing Public old.world.stack.top) v mid.world.stack.top g) (closed v x closes.answer);
          below = closes.below;
        }

    ended : (e : Stop) (x : Result Val Stop) → ((s t : State) → Stops (walked (rules S) (book old) (returning (f old.world.stack.top))) e (book mid) s → Stops (walked (rules S) (book old) (returning (f old.world.stack.top))) e (book new) t) → mid.world.stack.below ≡ old.world.stack.top ∷ old.world.stack.below → Stops (walked (rules S) (book old) (returning (f old.world.stack.top))) e (book mid) mid.world.stack.top → Closes (Err e) mid.world.stack x new.world.stack → Evaluates S (λ s. and_then (returning (f s)) (closing Public s)) old x new
    ended e x any below g k = record {
      ends = subst (λ q. Ends (walked (rules S) (book old) (and_then (returning (f old.world.stack.top)) (closing Public old.world.stack.top))) q (book new) new.world.stack.top) (sym k.0) (stops_eq _ _ e (book new) new.world.stack.top (walked-then (rules S) (book old) (returning (f old.world.stack.top)) (closing Public old.world.stack.top)) (stops_after (walked (rules S) (book old) (returning (f old.world.stack.top))) (λ v s c. walked (rules S) c (closing Public old.world.stack.top v s)) e (book new) new.world.stack.top (any mid.world.stack.top new.world.stack.top g)));
      below = k.1 ∙ ap rest_of below;
    }

    of_public : (r x : Result Val Stop) → Evaluates S f up r mid → Closes (returned_result r) mid.world.stack x new.world.stack → Evaluates S (λ s. and_then (returning (f s)) (closing Public s)) old x new
    of_public (Ok v) x e k = gave v x (under (Ok v) e) (start_so (Ok v) (returning_ends f up mid (Ok v) e)) k
    of_public (Err (stops.Thrown v)) x e k = gave v x (under (Err (stops.Thrown v)) e) (start_so (Ok v) (returning_ends f up mid (Err (stops.Thrown v)) e)) k
    of_public (Err (stops.Aborted y)) x e k = ended (stops.Aborted y) x (λ s t h. h ∙ ap (AbortedBy (cause y)) (sym kept)) (under (Err (stops.Aborted y)) e) (start_so (Err (stops.Aborted y)) (returning_ends f up mid (Err (stops.Aborted y)) e)) k
    of_public (Err (stops.CostLimit over)) x e k = ended (stops.CostLimit over) x (λ s t h. h ∙ ap (Passed over) (sym kept)) (under (Err (stops.CostLimit over)) e) (start_so (Err (stops.CostLimit over)) (returning_ends f up mid (Err (stops.CostLimit over)) e)) k
    of_public (Err stops.Stuck) x e k = ended stops.Stuck x (λ s t h. h ∙ ap Lost (sym kept)) (under (Err stops.Stuck) e) (start_so (Err stops.Stuck) (returning_ends f up mid (Err stops.Stuck) e)) k
    of_public (Err stops.NoMemory) x e k = ended stops.NoMemory x (λ s t h. tt) (under (Err stops.NoMemory) e) tt k

    pub public_ends : (access : Access) (r answer x : Result Val Stop) → is_public access ≡ true → answer ≡ returned_result r → Evaluates S f up r mid → Closes answer mid.world.stack x new.world.stack → Evaluates S (λ s. and_then (returning (f s)) (closing access s)) old x new
    public_ends access r answer x public same e k =
        subst (λ a. Evaluates S (λ s. and_then (returning (f s)) (closing a s)) old x new) (sym (public_one access public)) (of_public r x e (subst (λ q. Closes q mid.world.stack x new.world.stack) same k))

-- ---- let

module _ (S : Scope) (T : Take) (A : Around) (body : List Tree) where
  -- however the bindings that are left end from here, so all of them end from the start
  abbrev pub Lets : List Tree → ℕ → List (List ℕ × Val) → Run → Run → Type 0
  Lets bs i own start here = (r : Result Val Stop) (new : Run) → Evaluates S (let_in T body (with_bound (A.bound ++ own) A) (drop i bs)) here r new → Evaluates S (let_in T body A bs) start r new

  pub lets_first : (bs : List Tree) (own : List (List ℕ × Val)) (start : Run) → own ≡ [] → Lets bs 0 own start start
  lets_first bs own start h r new e = subst (λ o. Evaluates S (let_in T body (with_bound o A) bs) start r new) (ap (λ o. A.bound ++ o) h ∙ append-nil A.bound) e

  one_let : (i : ℕ) (bs : List Tree) (own : List (List ℕ × Val)) (b : Tree) (o : Option (List ℕ × Tree)) (s : State) → i < length bs → b ≡ get_or bs i b → o ≡ binding_of b → let_in T body (with_bound (A.bound ++ own) A) (drop i bs) s ≡ with_known o (λ p t. and_then (T (with_bound (A.bound ++ own) A) p.1 t) (λ v u. charged Bind (size_of v) (let_in T body (binding p.0 v (with_bound (A.bound ++ own) A)) (drop (i + 1) bs) u))) s
  unfolding let_in
  one_let i bs own b o s within at is =
      ap (λ fs. let_in T body (with_bound (A.bound ++ own) A) fs s) (next_part bs i b within at)
      ∙ ap (λ q. with_known q (λ p t. and_then (T (with_bound (A.bound ++ own) A) p.1 t) (λ v u. charged Bind (size_of v) (let_in T body (binding p.0 v (with_bound (A.bound ++ own) A)) (drop (i + 1) bs) u))) s) (sym is)

  pub no_let : (i : ℕ) (bs : List Tree) (own : List (List ℕ × Val)) (b : Tree) (start here : Run) → i < length bs → b ≡ get_or bs i b → None ≡ binding_of b → Lets bs i own start here → Evaluates S (let_in T body A bs) start (Err stops.Stuck) here
  no_let i bs own b start here within at is leads = leads (Err stops.Stuck) here (so S _ (stop Wrong) here here (Err stops.Stuck) (λ s. one_let i bs own b None s within at is) (is_wrong S here))

  pub let_stopped : (i : ℕ) (bs : List Tree) (own : List (List ℕ × Val)) (b e : Tree) (x : List ℕ) (y : Stop) (start here mid : Run) (r : Result Val Stop) → i < length bs → b ≡ get_or bs i b → Some (x, e) ≡ binding_of b → Handed r y → Lets bs i own start here → Evaluates S (T (with_bound (A.bound ++ own) A) e) here (Err y) mid → Evaluates S (let_in T body A bs) start r mid
  let_stopped i bs own b e x y start here mid r within at is h leads f = leads r mid (so S _ _ here mid r (λ s. one_let i bs own b (Some (x, e)) s within at is) (stopped S (T (with_bound (A.bound ++ own) A) e) _ y here mid r h f))

  charged_so : (c : Charge) (v : Val) → c ≡ (Bind, size_of v) → (a : Answer Val) → charged Bind (size_of v) a ≡ behind (Some c) a
  unfolding behind
  charged_so c v h a = sym (ap (λ (y : Charge). charged y.0 y.1 a) h)

  pub let_unpaid : (i : ℕ) (bs : List Tree) (own : List (List ℕ × Val)) (b e : Tree) (x : List ℕ) (v : Val) (c : Charge) (y : Stop) (start here mid new : Run) (r : Result Val Stop) → i < length bs → b ≡ get_or bs i b → Some (x, e) ≡ binding_of b → c ≡ (Bind, size_of v) → Handed r y → Lets bs i own start here → Evaluates S (T (with_bound (A.bound ++ own) A) e) here (Ok v) mid → Pays S (Some c) mid (Err y) new → Evaluates S (let_in T body A bs) start r new
  let_unpaid i bs own b e x v c y start here mid new r within at is charge h leads f p =
      leads r new (so S _ _ here new r (λ s. one_let i bs own b (Some (x, e)) s within at is) (goes_on S (T (with_bound (A.bound ++ own) A) e) _ v here mid new r f (so S _ _ mid new r (λ s. charged_so c v charge (let_in T body (binding x v (with_bound (A.bound ++ own) A)) (drop (i + 1) bs) s)) (unpaid S (Some c) _ y mid new r h p))))

  pub let_turn : (i : ℕ) (bs : List Tree) (own more : List (List ℕ × Val)) (b e : Tree) (x : List ℕ) (v : Val) (c : Charge) (u : Unit {0}) (start here mid new : Run) → i < length bs → b ≡ get_or bs i b → Some (x, e) ≡ binding_of b → c ≡ (Bind, size_of v) → more ≡ own ++ (x, v) ∷ [] → Lets bs i own start here → Evaluates S (T (with_bound (A.bound ++ own) A) e) here (Ok v) mid → Pays S (Some c) mid (Ok u) new → Lets bs (i + 1) more start new
  let_turn i bs own more b e x v c u start here mid new within at is charge pushed leads f p r end g =
      leads r end (so S _ _ here end r (λ s. one_let i bs own b (Some (x, e)) s within at is) (goes_on S (T (with_bound (A.bound ++ own) A) e) _ v here mid end r f (so S _ _ mid end r (λ s. charged_so c v charge (let_in T body (binding x v (with_bound (A.bound ++ own) A)) (drop (i + 1) bs) s)) (paid S (Some c) _ u mid new end r p
      (subst (λ o. Evaluates S (let_in T body (with_bound o A) (drop (i + 1) bs)) new r end) (ap (λ o. A.bound ++ o) pushed ∙ sym (append_assoc A.bound own ((x, v) ∷ []))) g)))))

  pub let_end : (i : ℕ) (bs : List Tree) (own : List (List ℕ × Val)) (start here new : Run) (r : Result Val Stop) → length bs ≤ i → Lets bs i own start here → Evaluates S (λ s. and_then (parts T (with_bound (A.bound ++ own) A) body s) last_of) here r new → Evaluates S (let_in T body A bs) start r new
  unfolding let_in
  let_end i bs own start here new r past leads e = leads r new (so S _ _ here new r (λ s. ap (λ fs. let_in T body (with_bound (A.bound ++ own) A) fs s) (drop_all i bs past)) e)
