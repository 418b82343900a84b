-- Nodes, and loops over parts.
use Rattle.std.proofs.Common.{◌≡◌, ◌≢◌, ℕ, zero, suc, ◌<◌, ◌≤◌, ◌+◌, ◌-◌, List, [], ◌∷◌, ◌++◌, length, map, get_or, drop, Result, Ok, Err, refl, sym, ap, ◌∙◌, subst, arith, append_assoc}
use Rattle.std.specs.Prelude.{zip}
use Rattle.std.proofs.lemmas.List.{append-nil, drop_all}
use Rattle.cl_values.proofs.Lists.{next_part}
use Rattle.std.proofs.Common.{Vec, Global}
use Rattle.cl_sexpr.specs.declared.sexpr.Span.{Span}
use Rattle.cl_sexpr.specs.declared.sexpr.Node.{Node}
use Rattle.cl_sexpr.specs.declared.sexpr.Node.TheVariants as nodes
use Rattle.cl_sexpr.specs.Tree.{Tree, span_of}
use Rattle.cl_sexpr.specs.View.{tree_of}
use Rattle.cl_shapes.specs.declared.name.CostName.TheVariants.{Make}
use Rattle.cl_values.specs.Computed.{Gives}
use Rattle.cl_values.specs.Tree.{Tree as Val, TupleV}
use Rattle.cl_values.specs.Tuples.{sorted_entries}
use Rattle.cl_events.specs.State.{State}
use Rattle.cl_meaning.specs.Answers.{Answer, Deeper, Wrong, stop, give, charged, and_then, ending, outcome_of}
use Rattle.cl_meaning.specs.Scope.{Scope as Around, Take, Enter, parts, sizes}
use Rattle.cl_meaning.specs.Values.{tuple_form}
use Rattle.cl_meaning.specs.Control.{and_on, or_on}
use Rattle.cl_meaning.specs.Meaning.{node, means, applied}
use Rattle.cl_meaning.proofs.Equations.{means_zero, means_step}
use Rattle.cl_walks.specs.declared.stop.Stop.{Stop}
use Rattle.cl_walks.specs.declared.stop.Stop.TheVariants as stops
use Rattle.cl_walks.specs.Walked.{Gave, after, looked, walked}
use Rattle.cl_walks.proofs.WalkLaws.{walked-stop, walked-ending}
use Rattle.cl_audit_steps.specs.declared.scope.Scope.{Scope}
use Rattle.cl_audit_steps.specs.declared.step.Part.{Part}
use Rattle.cl_audit_steps.specs.declared.step.Last.{Last}
use Rattle.cl_audit_steps.specs.declared.step.Chain.{Chain}
use Rattle.cl_audit_steps.specs.declared.step.Chain.TheVariants.{And, Or}
use Rattle.cl_audit_steps.specs.declared.step.Link.{Link}
use Rattle.cl_audit_steps.specs.Steps.{last_step, part_step, chain, chain_on, link_step, tuple_made}
use Rattle.cl_audit_steps.proofs.SequenceLaws.{then_then, given_then}
use Rattle.cl_audit_walk.specs.declared.cursor.Cursor.{Cursor}
use Rattle.cl_audit_walk.specs.declared.run.Run.{Run}
use Rattle.cl_audit_walk.specs.Looking.{look}
use Rattle.cl_audit_walk.specs.Evaluates.{rules, book, Evaluates, items_in}
use Rattle.cl_audit_walk.specs.Turns.{in_turn, field_taken}
use Rattle.cl_audit_walk.proofs.Rules.{Handed, hand, stops_after, stops_eq, so, goes_on, stopped, gives, forgets}

-- an item's span
pub span_is : (n : Node) (at : Span) (e : Tree) → tree_of n at ≡ e → at ≡ span_of e
span_is n at e h = own n ∙ ap span_of h
  where
    own : (n : Node) → at ≡ span_of (tree_of n at)
    own (nodes.Atom x) = refl
    own (nodes.Int x) = refl
    own (nodes.Uint x) = refl
    own (nodes.Buff x) = refl
    own (nodes.Ascii x) = refl
    own (nodes.Utf8 x) = refl
    own (nodes.Standing x) = refl
    own (nodes.Local x) = refl
    own (nodes.List x) = refl
    own (nodes.Tuple x) = refl

means_down : (d : ℕ) (S : Around) (e : Tree) (s : State) → d ≢ 0 → means d S e s ≡ ending (span_of e) (node (means (d - 1)) (applied (d - 1)) S e s)
means_down zero S e s h = absurd (h refl)
means_down (suc d) S e s h =
    let k : d ≡ suc d - 1 = omega arith in
    means_step d S e s ∙ ap (λ n. ending (span_of e) (node (means n) (applied n) S e s)) k

module _ (S : Scope) (T : Take) (N : Enter) (A : Around) where
  pub at_part : (p q : Part) (old new : Run) (r : Result Val Stop) → p ≡ q → Evaluates S (part_step T N A q) old r new → Evaluates S (part_step T N A p) old r new
  at_part p q old new r h e = subst (λ x. Evaluates S (part_step T N A x) old r new) (sym h) e

  pub at_last : (p q : Last) (old new : Run) (r : Result Val Stop) → p ≡ q → Evaluates S (last_step T N A q) old r new → Evaluates S (last_step T N A p) old r new
  at_last p q old new r h e = subst (λ x. Evaluates S (last_step T N A x) old r new) (sym h) e

module _ (S : Scope) (d : ℕ) (A : Around) (e : Tree) where
  pub at_bottom : (old : Run) → d ≡ 0 → Evaluates S (means d A e) old (Err stops.Stuck) old
  at_bottom old h = record {
    ends = ap (λ n. walked (rules S) (book old) (means n A e old.world.stack.top)) h ∙ ap (walked (rules S) (book old)) (means_zero A e old.world.stack.top) ∙ walked-stop (rules S) (book old) Deeper old.world.stack.top;
    below = refl;
  }

  pub node_stopped : (x : Stop) (old mid : Run) (r : Result Val Stop) → d ≢ 0 → Handed r x → Evaluates S (node (means (d - 1)) (applied (d - 1)) A e) old (Err x) mid → Evaluates S (means d A e) old r mid
  node_stopped x old mid r deep h f = record {
    ends = hand _ r x (book mid) mid.world.stack.top h (stops_eq _ _ x (book mid) mid.world.stack.top
        (ap (walked (rules S) (book old)) (means_down d A e old.world.stack.top deep) ∙ walked-ending (rules S) (book old) (span_of e) (node (means (d - 1)) (applied (d - 1)) A e old.world.stack.top))
        (stops_after _ _ x (book mid) mid.world.stack.top f.ends));
    below = f.below;
  }

  pub node_looked : (v : Val) (at : Span) (c : Cursor) (old mid : Run) → d ≢ 0 → Evaluates S (node (means (d - 1)) (applied (d - 1)) A e) old (Ok v) mid → at ≡ span_of e → c ≡ look at v mid.cursor → Evaluates S (means d A e) old (Ok v) (record mid { cursor = c })
  node_looked v at c old mid deep f here seen = record {
    ends = ap (walked (rules S) (book old)) (means_down d A e old.world.stack.top deep) ∙ walked-ending (rules S) (book old) (span_of e) (node (means (d - 1)) (applied (d - 1)) A e old.world.stack.top)
        ∙ ap (λ w. after w (λ u s b. Gave u s (looked (rules S) (span_of e) u b))) f.ends
        ∙ ap (λ k. Gave v mid.world.stack.top (record { purse = mid.meter; kept = k })) (sym (seen ∙ ap (λ sp. look sp v mid.cursor) here));
    below = f.below;
  }

-- ---- one after another

-- the values before, and those that are given
abbrev pub onto : {B : Type 0} → List B → Result (List B) Stop → Result (List B) Stop
onto vs (Ok ws) = Ok (vs ++ ws)
onto vs (Err e) = Err e

module _ {A B : Type 0} (S : Scope) (step : A → State → Answer B) where
  -- however those that are left end from here, so all of them end from the start
  abbrev pub Onward : List A → List A → List B → Run → Run → Type 0
  Onward all rest vs start here = (r : Result (List B) Stop) (new : Run) → Evaluates S (in_turn step rest) here r new → Evaluates S (in_turn step all) start (onto vs r) new

  pub at_first : (all : List A) (vs : List B) (start : Run) → vs ≡ [] → Onward all all vs start start
  at_first all vs start h r new e = subst (λ us. Evaluates S (in_turn step all) start (onto us r) new) (sym h) (subst (λ q. Evaluates S (in_turn step all) start q new) (nothing r) e)
    where
      nothing : (r : Result (List B) Stop) → r ≡ onto [] r
      nothing (Ok ws) = refl
      nothing (Err x) = refl

  more : (x : A) (xs : List A) (v : B) (here mid new : Run) (r : Result (List B) Stop) → Evaluates S (step x) here (Ok v) mid → Evaluates S (in_turn step xs) mid r new → Evaluates S (in_turn step (x ∷ xs)) here (onto (v ∷ []) r) new
  unfolding in_turn
  more x xs v here mid new (Ok ws) f g = goes_on S (step x) _ v here mid new (Ok (v ∷ ws)) f (goes_on S (in_turn step xs) _ ws mid new new (Ok (v ∷ ws)) g (gives S (v ∷ ws) (v ∷ ws) new refl))
  more x xs v here mid new (Err e) f g = goes_on S (step x) _ v here mid new (Err e) f (stopped S (in_turn step xs) _ e mid new (Err e) (e, refl, refl) g)

  both : (vs us : List B) (v : B) (r : Result (List B) Stop) → us ≡ vs ++ v ∷ [] → onto vs (onto (v ∷ []) r) ≡ onto us r
  both vs us v (Ok ws) h = ap Ok (sym (append_assoc vs (v ∷ []) ws) ∙ ap (λ ts. ts ++ ws) (sym h))
  both vs us v (Err x) h = refl

  -- one gave a value
  pub turn : (all rest xs : List A) (x : A) (v : B) (vs us : List B) (start here mid : Run) → rest ≡ x ∷ xs → us ≡ vs ++ v ∷ [] → Onward all rest vs start here → Evaluates S (step x) here (Ok v) mid → Onward all xs us start mid
  turn all rest xs x v vs us start here mid next pushed onward f r new g =
      subst (λ q. Evaluates S (in_turn step all) start q new) (both vs us v r pushed)
      (onward (onto (v ∷ []) r) new (subst (λ l. Evaluates S (in_turn step l) here (onto (v ∷ []) r) new) (sym next) (more x xs v here mid new r f g)))

  -- one gave none
  pub turn_stopped : (all rest xs : List A) (x : A) (e : Stop) (vs : List B) (start here mid : Run) (r : Result (Vec B Global) Stop) → rest ≡ x ∷ xs → Handed r e → Onward all rest vs start here → Evaluates S (step x) here (Err e) mid → Evaluates S (in_turn step all) start (items_in r) mid
  unfolding in_turn
  turn_stopped all rest xs x e vs start here mid r next h onward f =
      subst (λ q. Evaluates S (in_turn step all) start q mid) (sym (ap items_in h.1 ∙ ap Err h.2))
      (onward (Err e) mid (subst (λ l. Evaluates S (in_turn step l) here (Err e) mid) (sym next) (stopped S (step x) _ e here mid (Err e) (e, refl, refl) f)))

  -- memory ran out
  pub turn_forgot : (all rest : List A) (vs : List B) (start here mid : Run) (r : Result (Vec B Global) Stop) → Handed r stops.NoMemory → mid.world.stack.below ≡ here.world.stack.below → Onward all rest vs start here → Evaluates S (in_turn step all) start (items_in r) mid
  turn_forgot all rest vs start here mid r h below onward =
      subst (λ q. Evaluates S (in_turn step all) start q mid) (sym (ap items_in h.1 ∙ ap Err h.2))
      (onward (Err stops.NoMemory) mid (forgets S (in_turn step rest) here mid (Err stops.NoMemory) (stops.NoMemory, refl, refl) below))

  -- none is left
  pub at_end : (all rest : List A) (vs : List B) (start here : Run) → rest ≡ [] → Onward all rest vs start here → Evaluates S (in_turn step all) start (Ok vs) here
  unfolding in_turn
  at_end all rest vs start here past onward =
      subst (λ us. Evaluates S (in_turn step all) start (Ok us) here) (append-nil vs)
      (onward (Ok []) here (subst (λ l. Evaluates S (in_turn step l) here (Ok []) here) (sym past) (gives S [] [] here refl)))

-- all parts
pub parts_in_turn : (T : Take) (A : Around) (es : List Tree) (s : State) → parts T A es s ≡ in_turn (T A) es s
unfolding parts in_turn
parts_in_turn T A [] s = refl
parts_in_turn T A (e ∷ es) s = λ j. and_then (T A e s) (λ v t. and_then (parts_in_turn T A es t j) (λ vs u. give (v ∷ vs) u))

-- ---- tuples

abbrev Fields : Type 0 → Take → Around → List (List ℕ × Tree) → Type 0
Fields C T A ps = (k : List (List ℕ × Val) → List Val → State → Answer C) (s : State) → and_then (parts T A (map (λ p. p.1) ps) s) (λ vs t. k (zip (map (λ p. p.0) ps) vs) vs t) ≡ and_then (in_turn (field_taken T A) ps s) (λ es t. k es (map (λ e. e.1) es) t)

fields_here : {C : Type 0} (T : Take) (A : Around) (x : List ℕ) (ps : List (List ℕ × Tree)) → Fields C T A ps → (k : List (List ℕ × Val) → List Val → State → Answer C) (v : Val) (t : State) → and_then (and_then (parts T A (map (λ q. q.1) ps) t) (λ vs u. give (v ∷ vs) u)) (λ vs u. k (zip (x ∷ map (λ q. q.0) ps) vs) vs u) ≡ and_then (and_then (in_turn (field_taken T A) ps t) (λ es u. give ((x, v) ∷ es) u)) (λ es u. k es (map (λ e. e.1) es) u)
fields_here T A x ps known k v t =
    then_then (parts T A (map (λ q. q.1) ps) t) (λ vs u. give (v ∷ vs) u) (λ vs u. k (zip (x ∷ map (λ q. q.0) ps) vs) vs u)
    ∙ (λ j. and_then (parts T A (map (λ q. q.1) ps) t) (λ vs u. given_then (v ∷ vs) u (λ ws w. k (zip (x ∷ map (λ q. q.0) ps) ws) ws w) j))
    ∙ known (λ es ws u. k ((x, v) ∷ es) (v ∷ ws) u) t
    ∙ sym (then_then (in_turn (field_taken T A) ps t) (λ es u. give ((x, v) ∷ es) u) (λ es u. k es (map (λ e. e.1) es) u)
    ∙ λ j. and_then (in_turn (field_taken T A) ps t) (λ es u. given_then ((x, v) ∷ es) u (λ ds w. k ds (map (λ e. e.1) ds) w) j))

fields_then : {C : Type 0} (T : Take) (A : Around) (ps : List (List ℕ × Tree)) → Fields C T A ps
unfolding parts in_turn
fields_then T A [] k s = given_then [] s (λ vs t. k (zip [] vs) vs t) ∙ sym (given_then [] s (λ es t. k es (map (λ e. e.1) es) t))
fields_then T A (p ∷ ps) k s =
    then_then (T A p.1 s) _ (λ vs t. k (zip (p.0 ∷ map (λ q. q.0) ps) vs) vs t)
    ∙ (λ j. and_then (T A p.1 s) (λ v t. fields_here T A p.0 ps (fields_then T A ps) k v t j))
    ∙ sym (then_then (and_then (T A p.1 s) (λ v t. give (p.0, v) t)) _ (λ es t. k es (map (λ e. e.1) es) t)
    ∙ then_then (T A p.1 s) (λ v t. give (p.0, v) t) _
    ∙ λ j. and_then (T A p.1 s) (λ v t. given_then (p.0, v) t (λ e u. and_then (and_then (in_turn (field_taken T A) ps u) (λ es w. give (e ∷ es) w)) (λ es w. k es (map (λ d. d.1) es) w)) j))

abbrev made : List (List ℕ × Val) → List Val → State → Answer Val
made es vs t = charged Make (sizes vs) (stop (outcome_of (Gives (TupleV (sorted_entries es)))) t)

some_made : (T : Take) (A : Around) (p : List ℕ × Tree) (ps : List (List ℕ × Tree)) (s : State) → and_then (in_turn (field_taken T A) (p ∷ ps) s) (λ es t. made es (map (λ e. e.1) es) t) ≡ and_then (in_turn (field_taken T A) (p ∷ ps) s) tuple_made
unfolding in_turn
some_made T A p ps s =
    then_then (and_then (T A p.1 s) (λ v t. give (p.0, v) t)) _ _
    ∙ (λ j. and_then (and_then (T A p.1 s) (λ v t. give (p.0, v) t)) (λ e t. (then_then (in_turn (field_taken T A) ps t) (λ es u. give (e ∷ es) u) (λ es u. made es (map (λ d. d.1) es) u) ∙ (λ k. and_then (in_turn (field_taken T A) ps t) (λ es u. (given_then (e ∷ es) u (λ ds w. made ds (map (λ d. d.1) ds) w) ∙ sym (given_then (e ∷ es) u tuple_made)) k)) ∙ sym (then_then (in_turn (field_taken T A) ps t) (λ es u. give (e ∷ es) u) tuple_made)) j))
    ∙ sym (then_then (and_then (T A p.1 s) (λ v t. give (p.0, v) t)) _ tuple_made)

none_made : (T : Take) (A : Around) (s : State) → and_then (in_turn (field_taken T A) [] s) tuple_made ≡ stop Wrong s
unfolding in_turn
none_made T A s = given_then [] s tuple_made

-- a tuple is the values of its parts with their keys, put together
pub tuple_in_turn : (T : Take) (A : Around) (ps : List (List ℕ × Tree)) (s : State) → tuple_form T A ps s ≡ and_then (in_turn (field_taken T A) ps s) tuple_made
unfolding tuple_form
tuple_in_turn T A [] s = sym (none_made T A s)
tuple_in_turn T A (p ∷ ps) s = fields_then T A (p ∷ ps) made s ∙ some_made T A p ps s

module _ (S : Scope) (T : Take) (A : Around) where
  -- a part of a tuple, with its key
  pub field_ok : (p : List ℕ × Tree) (v : Val) (here mid : Run) → Evaluates S (T A p.1) here (Ok v) mid → Evaluates S (field_taken T A p) here (Ok (p.0, v)) mid
  field_ok p v here mid e = goes_on S (T A p.1) _ v here mid mid (Ok (p.0, v)) e (gives S (p.0, v) (p.0, v) mid refl)

  pub field_err : (p : List ℕ × Tree) (x : Stop) (here mid : Run) → Evaluates S (T A p.1) here (Err x) mid → Evaluates S (field_taken T A p) here (Err x) mid
  field_err p x here mid e = stopped S (T A p.1) _ x here mid (Err x) (x, refl, refl) e

  pub at_fields : (ps qs : List (List ℕ × Tree)) (old new : Run) (r : Result Val Stop) → ps ≡ qs → Evaluates S (tuple_form T A ps) old r new → Evaluates S (tuple_form T A qs) old r new
  at_fields ps qs old new r h e = subst (λ l. Evaluates S (tuple_form T A l) old r new) h e

-- ---- chains

module _ (S : Scope) (k : Chain) (T : Take) (A : Around) where
  chain_more : (c : Chain) (e : Tree) (es : List Tree) (s : State) → chain c T A (e ∷ es) s ≡ and_then (T A e s) (chain_on c (chain c T A es))
  unfolding and_on or_on
  chain_more And e es s = refl
  chain_more Or e es s = refl

  -- however the rest ends from here, so the chain ends from the start
  abbrev pub Leads : List Tree → ℕ → Run → Run → Type 0
  Leads es i start here = (r : Result Val Stop) (new : Run) → Evaluates S (chain k T A (drop i es)) here r new → Evaluates S (chain k T A es) start r new

  pub leads_first : (es : List Tree) (start : Run) → Leads es 0 start start
  leads_first es start r new e = e

  next_link : (es : List Tree) (i : ℕ) (e : Tree) (here new : Run) (r : Result Val Stop) → i < length es → e ≡ get_or es i e → Evaluates S (λ s. and_then (T A e s) (chain_on k (chain k T A (drop (i + 1) es)))) here r new → Evaluates S (chain k T A (drop i es)) here r new
  next_link es i e here new r within is f =
      subst (λ fs. Evaluates S (chain k T A fs) here r new) (sym (next_part es i e within is)) (so S _ _ here new r (chain_more k e (drop (i + 1) es)) f)

  -- a part gave a value, behind which the chain goes as its link says
  pub linked : (es : List Tree) (i : ℕ) (e : Tree) (v : Val) (l m : Link) (start here mid new : Run) (r : Result Val Stop) → i < length es → e ≡ get_or es i e → Leads es i start here → Evaluates S (T A e) here (Ok v) mid → ((more : State → Answer Val) (s : State) → chain_on k more v s ≡ link_step l more s) → l ≡ m → Evaluates S (link_step m (chain k T A (drop (i + 1) es))) mid r new → Evaluates S (chain k T A es) start r new
  linked es i e v l m start here mid new r within is leads f says same g =
      leads r new (next_link es i e here new r within is (goes_on S (T A e) _ v here mid new r f (so S _ _ mid new r (says (chain k T A (drop (i + 1) es))) (subst (λ x. Evaluates S (link_step x (chain k T A (drop (i + 1) es))) mid r new) (sym same) g))))

  pub link_stopped : (es : List Tree) (i : ℕ) (e : Tree) (x : Stop) (start here mid : Run) (r : Result Val Stop) → i < length es → e ≡ get_or es i e → Handed r x → Leads es i start here → Evaluates S (T A e) here (Err x) mid → Evaluates S (chain k T A es) start r mid
  link_stopped es i e x start here mid r within is h leads f =
      leads r mid (next_link es i e here mid r within is (stopped S (T A e) _ x here mid r h f))

  pub chain_end : (es : List Tree) (i : ℕ) (v : Val) (start here : Run) → length es ≤ i → Leads es i start here → ((s : State) → chain k T A [] s ≡ give v s) → Evaluates S (chain k T A es) start (Ok v) here
  chain_end es i v start here past leads is =
      leads (Ok v) here (subst (λ fs. Evaluates S (chain k T A fs) here (Ok v) here) (sym (drop_all i es past)) (so S _ _ here here (Ok v) is (gives S v v here refl)))
