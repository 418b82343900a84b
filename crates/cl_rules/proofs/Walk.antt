-- Typing and the walk, for any table of shapes.
use Rattle.std.proofs.Common.{◌≡◌, ◌⊎◌, inl, inr, ℕ, zero, suc, ◌≤◌, ◌<◌, ◌-◌, List, [], ◌∷◌, refl, sym, ap, ◌∙◌, subst, arith}
use Rattle.cl_sexpr.specs.declared.sexpr.Span.{Span}
use Rattle.cl_sexpr.specs.declared.rule.Rule.{Rule}
use Rattle.cl_sexpr.specs.Rules.{phase_of}
use Rattle.cl_sexpr.specs.Tree.{Tree, span_of}
use Rattle.cl_rules.specs.Context.{Context, Names}
use Rattle.cl_rules.specs.Verdicts.{Found}
use Rattle.cl_rules.specs.Shapes.{Plan, Ends, Part, Gives}
use Rattle.cl_rules.specs.Table.{shape}
use Rattle.cl_rules.specs.Typing.{broken_shape, broken_types, found_by, Typed, typed, Follows, ends, part, gives, Looked, itself, inside, LookedIn, at_part, past_part, at_gives, past_gives, Among, Breaks, by_shape, by_types, Before, FirstBreak}
use Rattle.cl_sexpr.specs.Placed.{IsPlaced}
use Rattle.cl_rules.specs.Walks.{Stops, at_shape, in_part, at_types, StopsIn, stops_part, later_part, stops_gives, later_gives}
use Rattle.cl_rules.proofs.Rising.{Starts, among_phase, rising_least, shape_rising, type_rising, number_tells}
use Rattle.cl_rules.proofs.Placing.{PlanPlaced, shape_placed, tree_room}

none_some : {r : Rule} {rs : List Rule} {xs : List Rule} → xs ≡ [] → xs ≡ r ∷ rs → ⊥
none_some e f = absurd (nil_cons (sym e ∙ f))
  where
    nil_cons : {r : Rule} {rs : List Rule} → [] ≡ r ∷ rs → ⊥
    nil_cons h = cc

pub among_none : (r : Rule) {xs : List Rule} → xs ≡ [] → Among r xs → ⊥
among_none r e h = subst (Among r) e h

pub before_both : (r q : Rule) (s u : Span) → phase_of r ≡ 3 → phase_of q ≡ 3 → Before r s q u → Before q u r s → (r ≡ q) × (s ≡ u)
before_both r q s u p h (inl x) (inl y) = absurd (omega (arith, x, y))
before_both r q s u p h (inl x) (inr y) = absurd (omega (arith, x, ap (λ (z : Span). z.end) y.0))
before_both r q s u p h (inr x) (inl y) = absurd (omega (arith, y, ap (λ (z : Span). z.end) x.0))
before_both r q s u p h (inr x) (inr y) = (number_tells r q p h (omega (arith, x.1, y.1)), x.0)

module _ (G : Context) where
  mutual
    pub one_type : {B : Names} {e : Tree} {t u : Found} → Typed G B e t → Typed G B e u → t ≡ u
    one_type {B = B} {e = e} (typed ts b f c i) (typed us d g h j) = sym i ∙ ap (found_by G B e) (one_row f g) ∙ j

    pub one_row : {p : Plan} {ts us : List Found} → Follows G p ts → Follows G p us → ts ≡ us
    one_row ends ends = refl
    one_row (part {f = t} {fs = ts} d f) (part {f = u} {fs = us} x g) = ap (λ a. a ∷ ts) (one_type d x) ∙ ap (λ xs. u ∷ xs) (one_row f g)
    one_row (gives {k = k} {f = t} {fs = ts} d f) (gives {f = u} {fs = us} x g) =
        ap (λ a. a ∷ ts) (one_type d x) ∙ ap (λ xs. u ∷ xs) (one_row f (subst (λ a. Follows G (k a) us) (sym (one_type d x)) g))

  mutual
    -- nothing that is looked at in a typed expression breaks a rule
    pub clean : {B C : Names} {e f : Tree} {t : Found} {r : Rule} → Typed G B e t → Looked G B e C f → Breaks G C f r → ⊥
    clean {r = r} (typed ts b d c i) itself (by_shape h) = among_none r b h
    clean {B = B} {e = e} {r = r} (typed ts b d c i) itself (by_types us x g h) =
        among_none r c (subst (λ xs. Among r (broken_types G B e xs)) (one_row g d) h)
    clean (typed ts b d c i) (inside x l) k = clean_in d l k

    pub clean_in : {C : Names} {f : Tree} {p : Plan} {ts : List Found} {r : Rule} → Follows G p ts → LookedIn G p C f → Breaks G C f r → ⊥
    clean_in ends l k = elim l [ ]
    clean_in (part d f) (at_part l) k = clean d l k
    clean_in (part d f) (past_part l) k = clean_in f l k
    clean_in (gives d f) (at_gives l) k = clean d l k
    clean_in {C = C} {f = e} (gives {k = q} {fs = ts} d f) (past_gives x l) k =
        clean_in (subst (λ a. Follows G (q a) ts) (one_type d x) f) l k

  mutual
    -- where the walk stops, an expression is looked at and breaks the rule
    pub stop_breaks : {B : Names} {e : Tree} {r : Rule} {s : Span} → Stops G B e r s → (C : Names) × (f : Tree) × Looked G B e C f × Breaks G C f r × (span_of f ≡ s)
    stop_breaks {B = B} {e = e} {r = r} (at_shape rs b) = (B, e, itself, by_shape (subst (Among r) (sym b) (inl refl)), refl)
    stop_breaks (in_part b h) = let x = stop_in_breaks h in (x.0, x.1, inside b x.2, x.3, x.4)
    stop_breaks {B = B} {e = e} {r = r} (at_types ts rs b f c) = (B, e, itself, by_types ts b f (subst (Among r) (sym c) (inl refl)), refl)

    pub stop_in_breaks : {p : Plan} {r : Rule} {s : Span} → StopsIn G p r s → (C : Names) × (f : Tree) × LookedIn G p C f × Breaks G C f r × (span_of f ≡ s)
    stop_in_breaks (stops_part h) = let x = stop_breaks h in (x.0, x.1, at_part x.2, x.3, x.4)
    stop_in_breaks (later_part d h) = let x = stop_in_breaks h in (x.0, x.1, past_part x.2, x.3, x.4)
    stop_in_breaks (stops_gives h) = let x = stop_breaks h in (x.0, x.1, at_gives x.2, x.3, x.4)
    stop_in_breaks (later_gives d h) = let x = stop_in_breaks h in (x.0, x.1, past_gives d x.2, x.3, x.4)

  mutual
    -- the walk stops within the expression
    pub stop_within : {B : Names} {e : Tree} {r : Rule} {s : Span} → IsPlaced e → Stops G B e r s → s.end ≤ (span_of e).end
    stop_within p (at_shape rs b) = omega arith
    stop_within {B = B} {e = e} p (in_part b h) = omega (arith, stop_in_within (span_of e).start (span_of e).end (shape_placed G B e p) h)
    stop_within p (at_types ts rs b f c) = omega arith

    pub stop_in_within : (low high : ℕ) {p : Plan} {r : Rule} {s : Span} → PlanPlaced low high p → StopsIn G p r s → s.end < high
    stop_in_within low high p (stops_part h) = omega (arith, p.1, stop_within p.2 h)
    stop_in_within low high p (later_part {e = e} d h) = stop_in_within (span_of e).end high p.3 h
    stop_in_within low high p (stops_gives h) = omega (arith, p.1, stop_within p.2 h)
    stop_in_within low high p (later_gives {e = e} {f = t} d h) = stop_in_within (span_of e).end high (p.3 t) h

  mutual
    -- what is looked at ends behind the start
    pub looked_behind : {B C : Names} {e f : Tree} → IsPlaced e → Looked G B e C f → (span_of e).start < (span_of f).end
    looked_behind {e = e} p itself = tree_room e p
    looked_behind {B = B} {e = e} p (inside b l) = looked_in_behind (span_of e).start (span_of e).end (shape_placed G B e p) l

    pub looked_in_behind : (low high : ℕ) {C : Names} {f : Tree} {p : Plan} → PlanPlaced low high p → LookedIn G p C f → low < (span_of f).end
    looked_in_behind low high p (at_part l) = omega (arith, p.0, looked_behind p.2 l)
    looked_in_behind low high p (past_part {e = e} l) = omega (arith, p.0, tree_room e p.2, looked_in_behind (span_of e).end high p.3 l)
    looked_in_behind low high p (at_gives l) = omega (arith, p.0, looked_behind p.2 l)
    looked_in_behind low high p (past_gives {e = e} {f = t} d l) = omega (arith, p.0, tree_room e p.2, looked_in_behind (span_of e).end high (p.3 t) l)

  mutual
    -- and what breaks a rule anywhere doesn't come before
    pub stop_least : {B C : Names} {e f : Tree} {r q : Rule} {s : Span} → IsPlaced e → Stops G B e r s → Looked G B e C f → Breaks G C f q → Before r s q (span_of f)
    stop_least {B = B} {e = e} {q = q} p (at_shape {r = r} rs b) itself (by_shape h) = inr (refl, rising_least 0 r q rs (subst (Starts 0) b (shape_rising (shape G B e).faults)) (subst (Among q) b h))
    stop_least p (at_shape rs b) itself (by_types ts x g h) = absurd (none_some x b)
    stop_least p (at_shape rs b) (inside x l) k = absurd (none_some x b)
    stop_least {B = B} {e = e} p (in_part b h) itself k = inl (stop_in_within (span_of e).start (span_of e).end (shape_placed G B e p) h)
    stop_least {B = B} {e = e} p (in_part b h) (inside x l) k = stop_in_least (span_of e).start (span_of e).end (shape_placed G B e p) h l k
    stop_least {q = q} p (at_types ts rs b f c) itself (by_shape h) = absurd (among_none q b h)
    stop_least {B = B} {e = e} {q = q} p (at_types {r = r} ts rs b f c) itself (by_types us x g h) =
        inr (refl, rising_least 0 r q rs (subst (Starts 0) c (type_rising ((shape G B e).verdict ts).faults)) (subst (Among q) c (subst (λ xs. Among q (broken_types G B e xs)) (one_row g f) h)))
    stop_least p (at_types ts rs b f c) (inside x l) k = absurd (clean_in f l k)

    pub stop_in_least : (low high : ℕ) {C : Names} {f : Tree} {p : Plan} {r q : Rule} {s : Span} → PlanPlaced low high p → StopsIn G p r s → LookedIn G p C f → Breaks G C f q → Before r s q (span_of f)
    stop_in_least low high p (stops_part h) (at_part l) k = stop_least p.2 h l k
    stop_in_least low high p (stops_part {e = e} h) (past_part l) k = inl (omega (arith, stop_within p.2 h, looked_in_behind (span_of e).end high p.3 l))
    stop_in_least low high p (later_part d h) (at_part l) k = absurd (clean d l k)
    stop_in_least low high p (later_part {e = e} d h) (past_part l) k = stop_in_least (span_of e).end high p.3 h l k
    stop_in_least low high p (stops_gives h) (at_gives l) k = stop_least p.2 h l k
    stop_in_least low high p (stops_gives {e = e} h) (past_gives {f = t} d l) k = inl (omega (arith, stop_within p.2 h, looked_in_behind (span_of e).end high (p.3 t) l))
    stop_in_least low high p (later_gives d h) (at_gives l) k = absurd (clean d l k)
    stop_in_least low high {C = C} {f = f} p (later_gives {e = e} {k = m} {f = t} d h) (past_gives x l) k =
        stop_in_least (span_of e).end high (p.3 t) h (subst (λ a. LookedIn G (m a) C f) (one_type x d) l) k

  pub walk_is_first : (B : Names) (e : Tree) (r : Rule) (s : Span) → IsPlaced e → Stops G B e r s → FirstBreak G B e r s
  walk_is_first B e r s p h = let x = stop_breaks h in record {
    names = x.0;
    place = x.1;
    looked = x.2;
    breaks = x.3;
    span = x.4;
    least = λ C f q l k. stop_least p h l k;
  }

  pub never_both : (B : Names) (e : Tree) (t : Found) (r : Rule) (s : Span) → Typed G B e t → FirstBreak G B e r s → ⊥
  never_both B e t r s d h = clean d h.looked h.breaks

  -- what an expression breaks is a rule of expressions
  pub breaks_phase : {B : Names} {e : Tree} {r : Rule} → Breaks G B e r → phase_of r ≡ 3
  breaks_phase {B = B} {e = e} {r = r} (by_shape h) = among_phase 0 r (broken_shape G B e) (shape_rising (shape G B e).faults) h
  breaks_phase {B = B} {e = e} {r = r} (by_types fs b f h) = among_phase 0 r (broken_types G B e fs) (type_rising ((shape G B e).verdict fs).faults) h

  pub one_first : (B : Names) (e : Tree) (r q : Rule) (s u : Span) → FirstBreak G B e r s → FirstBreak G B e q u → (r ≡ q) × (s ≡ u)
  one_first B e r q s u h k = before_both r q s u (breaks_phase h.breaks) (breaks_phase k.breaks)
      (subst (Before r s q) k.span (h.least k.names k.place q k.looked k.breaks))
      (subst (Before q u r) h.span (k.least h.names h.place r h.looked h.breaks))

  abbrev pub Walks : Names → Tree → Type 0
  Walks B e = ((t : Found) × Typed G B e t) ⊎ ((r : Rule) × (s : Span) × Stops G B e r s)

  abbrev pub WalksOn : Plan → Type 0
  WalksOn p = ((ts : List Found) × Follows G p ts) ⊎ ((r : Rule) × (s : Span) × StopsIn G p r s)

  walk_part : (B : Names) (e : Tree) (q : Plan) → Walks B e → WalksOn q → WalksOn (Part B e q)
  walk_part B e q (inr x) w = inr (x.0, x.1, stops_part x.2)
  walk_part B e q (inl x) (inr y) = inr (y.0, y.1, later_part x.1 y.2)
  walk_part B e q (inl x) (inl y) = inl (x.0 ∷ y.0, part x.1 y.1)

  walk_given : (B : Names) (e : Tree) (k : Found → Plan) (t : Found) → Typed G B e t → WalksOn (k t) → WalksOn (Gives B e k)
  walk_given B e k t d (inr y) = inr (y.0, y.1, later_gives d y.2)
  walk_given B e k t d (inl y) = inl (t ∷ y.0, gives d y.1)

  walk_gives : (B : Names) (e : Tree) (k : Found → Plan) → Walks B e → ((t : Found) → WalksOn (k t)) → WalksOn (Gives B e k)
  walk_gives B e k (inr x) w = inr (x.0, x.1, stops_gives x.2)
  walk_gives B e k (inl x) w = walk_given B e k x.0 x.1 (w x.0)

  abbrev pub WalksAt : ℕ → Type 0
  WalksAt d = (B : Names) (e : Tree) → IsPlaced e → (span_of e).end - (span_of e).start ≤ d → Walks B e

  pub walk_plan : (d : ℕ) → WalksAt d → (low high : ℕ) (p : Plan) → PlanPlaced low high p → high - low ≤ suc d → WalksOn p
  walk_plan d w low high Ends p h = inl ([], ends)
  walk_plan d w low high (Part B e q) p h =
      walk_part B e q (w B e p.2 (omega (arith, h, p.0, p.1, tree_room e p.2))) (walk_plan d w (span_of e).end high q p.3 (omega (arith, h, p.0, tree_room e p.2)))
  walk_plan d w low high (Gives B e k) p h =
      walk_gives B e k (w B e p.2 (omega (arith, h, p.0, p.1, tree_room e p.2))) (λ t. walk_plan d w (span_of e).end high (k t) (p.3 t) (omega (arith, h, p.0, tree_room e p.2)))

  walk_ruled : (B : Names) (e : Tree) → broken_shape G B e ≡ [] → (ts : List Found) → Follows G (shape G B e).plan ts → (rs : List Rule) → broken_types G B e ts ≡ rs → Walks B e
  walk_ruled B e b ts f [] c = inl (found_by G B e ts, typed ts b f c refl)
  walk_ruled B e b ts f (r ∷ rs) c = inr (r, span_of e, at_types ts rs b f c)

  walk_types : (B : Names) (e : Tree) → broken_shape G B e ≡ [] → WalksOn (shape G B e).plan → Walks B e
  walk_types B e b (inr x) = inr (x.0, x.1, in_part b x.2)
  walk_types B e b (inl x) = walk_ruled B e b x.0 x.1 (broken_types G B e x.0) refl

  walk_shape : (d : ℕ) → WalksAt d → (B : Names) (e : Tree) → IsPlaced e → (span_of e).end - (span_of e).start ≤ suc d → (rs : List Rule) → broken_shape G B e ≡ rs → Walks B e
  walk_shape d w B e p h (r ∷ rs) b = inr (r, span_of e, at_shape rs b)
  walk_shape d w B e p h [] b = walk_types B e b (walk_plan d w (span_of e).start (span_of e).end (shape G B e).plan (shape_placed G B e p) h)

  pub walk : (d : ℕ) → WalksAt d
  walk zero = λ B e p h. absurd (omega (arith, h, tree_room e p))
  walk (suc d) = λ B e p h. walk_shape d (walk d) B e p h (broken_shape G B e) refl

  first_of_walk : (B : Names) (e : Tree) → IsPlaced e → Walks B e → ((t : Found) × Typed G B e t) ⊎ ((r : Rule) × (s : Span) × FirstBreak G B e r s)
  first_of_walk B e p (inl x) = inl x
  first_of_walk B e p (inr x) = inr (x.0, x.1, walk_is_first B e x.0 x.1 p x.2)

  pub decided : (B : Names) (e : Tree) → IsPlaced e → ((t : Found) × Typed G B e t) ⊎ ((r : Rule) × (s : Span) × FirstBreak G B e r s)
  decided B e p = first_of_walk B e p (walk ((span_of e).end - (span_of e).start) B e p (omega arith))
