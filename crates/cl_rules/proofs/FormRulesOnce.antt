-- The first break among the forms of a text is one.
use Rattle.std.proofs.Common.{◌≡◌, ◌⊎◌, inl, inr, ℕ, zero, suc, ◌≤◌, ◌<◌, ◌==◌, Bool, true, false, if◌then◌else◌, List, [], ◌∷◌, ◌++◌, map, slice_get, Some, is_none, ◌||◌, refl, sym, ap, ◌∙◌, subst, arith}
use Rattle.std.specs.List.{list_any}
use Rattle.cl_sexpr.specs.declared.sexpr.Span.{Span}
use Rattle.cl_sexpr.specs.declared.rule.Rule.{Rule}
use Rattle.cl_sexpr.specs.declared.rule.Rule.TheVariants.{BadDefinition, BadType, BadName, NotInProfile, NameUsed}
use Rattle.cl_sexpr.specs.declared.rule.Break.{Break}
use Rattle.cl_sexpr.specs.Rules.{number_of}
use Rattle.cl_sexpr.specs.Tree.{Tree, LeafAt, ListAt, TupleAt, Leaf, Named, Signed, Unsigned, Bytes, Ascii, Unicode, Standing, Local, Forest, Empty, Then, Pairs, NoPair, Pair, span_of}
use Rattle.cl_sexpr.specs.Placed.{IsPlaced, ArePlaced, ArePairsPlaced}
use Rattle.cl_forms.specs.Names.{is_one_of}
use Rattle.cl_forms.specs.declared.version.Version.{Version}
use Rattle.cl_forms.specs.Heads.{is_reserved, left_out}
use Rattle.cl_forms.specs.Items.{Item, Expression, Misshapen, Definition, item_of, kind_of}
use Rattle.cl_forms.specs.FormBreaks.{params_of, uses_name, left_out_leaf, left_out_in, left_out_of, left_out_of_pairs, when, rules_of, broken_at, breaks_of, IsAmong, GoesBefore, IsFirstBreak}
use Rattle.cl_rules.proofs.Placing.{tree_room, forest_room, pairs_room}
use Rattle.cl_rules.proofs.Accepting.{some_same, none_some}
use Rattle.cl_forms.specs.Placed.{AllPlaced}

-- ---- spans of names that are left out

split : (s : Span) (xs ys : List Span) → IsAmong s (xs ++ ys) → IsAmong s xs ⊎ IsAmong s ys
split s [] ys h = inr h
split s (x ∷ xs) ys (inl e) = inl (inl e)
split s (x ∷ xs) ys (inr h) = elim (split s xs ys h) [ inl k ↦ inl (inr k) | inr k ↦ inr k ]

if_one : (s at : Span) (b : Bool) → IsAmong s (if b then at ∷ [] else []) → s ≡ at
if_one s at true (inl e) = e
if_one s at true (inr h) = absurd h
if_one s at false h = absurd h

leaf_one : (s at : Span) (l : Leaf) → IsAmong s (left_out_leaf l at) → s ≡ at
leaf_one s at (Named x) h = if_one s at (is_one_of left_out x) h
leaf_one s at (Signed z) h = absurd h
leaf_one s at (Unsigned n) h = absurd h
leaf_one s at (Bytes bs) h = absurd h
leaf_one s at (Ascii cs) h = absurd h
leaf_one s at (Unicode cs) h = absurd h
leaf_one s at (Standing p) h = absurd h
leaf_one s at (Local n) h = absurd h

mutual
  -- they end in the item
  ends_in : (e : Tree) → IsPlaced e → (s : Span) → IsAmong s (left_out_in e) → ((span_of e).start < s.end) × (s.end ≤ (span_of e).end)
  ends_in (LeafAt l at) p s h = let e = ap (λ (u : Span). u.end) (leaf_one s at l h) in (omega (arith, p, e), omega (arith, e))
  ends_in (ListAt f at) p s h = let x = ends_of at.start at.end f p s h in (x.0, omega (arith, x.1))
  ends_in (TupleAt ps at) p s h = let x = ends_of_pairs at.start at.end ps p s h in (x.0, omega (arith, x.1))

  ends_of : (low high : ℕ) (f : Forest) → ArePlaced low high f → (s : Span) → IsAmong s (left_out_of f) → (low < s.end) × (s.end < high)
  ends_of low high Empty p s h = absurd h
  ends_of low high (Then e es) p s h = elim (split s (left_out_in e) (left_out_of es) h) [
    | inl k ↦ let x = ends_in e p.1 s k in (omega (arith, p.0, x.0), omega (arith, x.1, forest_room (span_of e).end high es p.2))
    | inr k ↦ let x = ends_of (span_of e).end high es p.2 s k in (omega (arith, p.0, tree_room e p.1, x.0), x.1)
  ]

  ends_of_pairs : (low high : ℕ) (ps : Pairs) → ArePairsPlaced low high ps → (s : Span) → IsAmong s (left_out_of_pairs ps) → (low < s.end) × (s.end < high)
  ends_of_pairs low high NoPair p s h = absurd h
  ends_of_pairs low high (Pair key e ps) p s h = elim (split s (left_out_in e) (left_out_of_pairs ps) h) [
    | inl k ↦ let x = ends_in e p.1 s k in (omega (arith, p.0, x.0), omega (arith, x.1, pairs_room (span_of e).end high ps p.2))
    | inr k ↦ let x = ends_of_pairs (span_of e).end high ps p.2 s k in (omega (arith, p.0, tree_room e p.1, x.0), x.1)
  ]

-- of two that end alike both are in the first item, or both behind it
two_sides : (e : Tree) → IsPlaced e → (us : List Span) (s u : Span) → s.end ≡ u.end → ((v : Span) → IsAmong v us → (span_of e).end < v.end) → (IsAmong s (left_out_in e) → IsAmong u (left_out_in e) → s ≡ u) → (IsAmong s us → IsAmong u us → s ≡ u) → IsAmong s (left_out_in e) ⊎ IsAmong s us → IsAmong u (left_out_in e) ⊎ IsAmong u us → s ≡ u
two_sides e p us s u q behind left right (inl h) (inl k) = left h k
two_sides e p us s u q behind left right (inr h) (inr k) = right h k
two_sides e p us s u q behind left right (inl h) (inr k) = absurd (omega (arith, q, (ends_in e p s h).1, behind u k))
two_sides e p us s u q behind left right (inr h) (inl k) = absurd (omega (arith, q, (ends_in e p u k).1, behind s h))

mutual
  -- and one place is the end of one of them
  one_end_in : (e : Tree) → IsPlaced e → (s u : Span) → s.end ≡ u.end → IsAmong s (left_out_in e) → IsAmong u (left_out_in e) → s ≡ u
  one_end_in (LeafAt l at) p s u q h k = leaf_one s at l h ∙ sym (leaf_one u at l k)
  one_end_in (ListAt f at) p s u q h k = one_end_of at.start at.end f p s u q h k
  one_end_in (TupleAt ps at) p s u q h k = one_end_of_pairs at.start at.end ps p s u q h k

  one_end_of : (low high : ℕ) (f : Forest) → ArePlaced low high f → (s u : Span) → s.end ≡ u.end → IsAmong s (left_out_of f) → IsAmong u (left_out_of f) → s ≡ u
  one_end_of low high Empty p s u q h k = absurd h
  one_end_of low high (Then e es) p s u q h k = two_sides e p.1 (left_out_of es) s u q (λ v x. (ends_of (span_of e).end high es p.2 v x).0) (λ x y. one_end_in e p.1 s u q x y) (λ x y. one_end_of (span_of e).end high es p.2 s u q x y) (split s (left_out_in e) (left_out_of es) h) (split u (left_out_in e) (left_out_of es) k)

  one_end_of_pairs : (low high : ℕ) (ps : Pairs) → ArePairsPlaced low high ps → (s u : Span) → s.end ≡ u.end → IsAmong s (left_out_of_pairs ps) → IsAmong u (left_out_of_pairs ps) → s ≡ u
  one_end_of_pairs low high NoPair p s u q h k = absurd h
  one_end_of_pairs low high (Pair key e ps) p s u q h k = two_sides e p.1 (left_out_of_pairs ps) s u q (λ v x. (ends_of_pairs (span_of e).end high ps p.2 v x).0) (λ x y. one_end_in e p.1 s u q x y) (λ x y. one_end_of_pairs (span_of e).end high ps p.2 s u q x y) (split s (left_out_in e) (left_out_of_pairs ps) h) (split u (left_out_in e) (left_out_of_pairs ps) k)

-- ---- what an item breaks

-- a break by a name that is left out, or by one of the other rules with the item's span
abbrev ByName : Tree → Break → Type 0
ByName e r = (at : Span) × IsAmong at (left_out_in e) × (r ≡ broken_at at NotInProfile)

abbrev RuleAmong : Rule → List Rule → Type 0
RuleAmong r [] = ⊥
RuleAmong r (q ∷ qs) = (r ≡ q) ⊎ RuleAmong r qs

abbrev ByRule : Tree → List Rule → Break → Type 0
ByRule e rules r = (rule : Rule) × RuleAmong rule rules × (r ≡ broken_at (span_of e) rule)

in_rules : (e : Tree) (rules : List Rule) (r : Break) → IsAmong r (map (broken_at (span_of e)) rules) → ByRule e rules r
in_rules e [] r h = absurd h
in_rules e (q ∷ qs) r (inl k) = (q, inl refl, k)
in_rules e (q ∷ qs) r (inr k) = let x = in_rules e qs r k in (x.0, inr x.1, x.2)

in_breaks : (e : Tree) (ats : List Span) (rules : List Rule) (r : Break) → IsAmong r (map (λ at. broken_at at NotInProfile) ats ++ map (broken_at (span_of e)) rules) → ((at : Span) × IsAmong at ats × (r ≡ broken_at at NotInProfile)) ⊎ ByRule e rules r
in_breaks e [] rules r h = inr (in_rules e rules r h)
in_breaks e (at ∷ ats) rules r (inl k) = inl (at, inl refl, k)
in_breaks e (at ∷ ats) rules r (inr k) = elim (in_breaks e ats rules r k) [ inl x ↦ inl (x.0, inr x.1, x.2) | inr x ↦ inr x ]

-- the other rules are known by their numbers, none of which is that of a name that is left out
abbrev rule_at : ℕ → Rule
rule_at n = if n == 1 then BadDefinition else (if n == 2 then BadType else (if n == 3 then BadName else NameUsed))

abbrev IsItemRule : Rule → Type 0
IsItemRule r = (rule_at (number_of r) ≡ r) × (number_of r ≡ 4 → ⊥)

among_when : (P : Rule → Type 0) (b : Bool) (q : Rule) (qs : List Rule) → P q → ((r : Rule) → RuleAmong r qs → P r) → (r : Rule) → RuleAmong r (when b q qs) → P r
among_when P true q qs h k r (inl e) = subst P (sym e) h
among_when P true q qs h k r (inr x) = k r x
among_when P false q qs h k r x = k r x

item_rules : (version : Version) (items : List Item) (n : ℕ) (item : Item) (r : Rule) → RuleAmong r (rules_of version items n item) → IsItemRule r
item_rules version items n (Expression e) r h = absurd h
item_rules version items n Misshapen r (inl e) = subst IsItemRule (sym e) (refl, λ h. omega (arith, h))
item_rules version items n Misshapen r (inr h) = absurd h
item_rules version items n (Definition name draft) r h =
    among_when IsItemRule (is_none (kind_of draft)) BadType (when (is_reserved version name || list_any (is_reserved version) (params_of draft)) BadName (when (uses_name items n name (params_of draft)) NameUsed [])) (refl, λ x. omega (arith, x))
    (among_when IsItemRule (is_reserved version name || list_any (is_reserved version) (params_of draft)) BadName (when (uses_name items n name (params_of draft)) NameUsed []) (refl, λ x. omega (arith, x))
    (among_when IsItemRule (uses_name items n name (params_of draft)) NameUsed [] (refl, λ x. omega (arith, x)) (λ q x. absurd x))) r h

-- two breaks of one item whose spans end alike, of rules of one number, are one
same_break : (version : Version) (items : List Item) (n : ℕ) (e : Tree) → IsPlaced e → (r q : Break) → r.span.end ≡ q.span.end → number_of r.rule ≡ number_of q.rule → ByName e r ⊎ ByRule e (rules_of version items n (item_of e)) r → ByName e q ⊎ ByRule e (rules_of version items n (item_of e)) q → r ≡ q
same_break version items n e p r q s m (inl x) (inl y) =
    let ends : x.0.end ≡ y.0.end = sym (ap (λ (b : Break). b.span.end) x.2) ∙ s ∙ ap (λ (b : Break). b.span.end) y.2 in
    x.2 ∙ ap (λ at. broken_at at NotInProfile) (one_end_in e p x.0 y.0 ends x.1 y.1) ∙ sym y.2
same_break version items n e p r q s m (inl x) (inr y) =
    absurd ((item_rules version items n (item_of e) y.0 y.1).1 (sym (ap (λ (b : Break). number_of b.rule) y.2) ∙ sym m ∙ ap (λ (b : Break). number_of b.rule) x.2))
same_break version items n e p r q s m (inr x) (inl y) =
    absurd ((item_rules version items n (item_of e) x.0 x.1).1 (sym (ap (λ (b : Break). number_of b.rule) x.2) ∙ m ∙ ap (λ (b : Break). number_of b.rule) y.2))
same_break version items n e p r q s m (inr x) (inr y) =
    let numbers : number_of x.0 ≡ number_of y.0 = sym (ap (λ (b : Break). number_of b.rule) x.2) ∙ m ∙ ap (λ (b : Break). number_of b.rule) y.2 in
    let rules : x.0 ≡ y.0 = sym (item_rules version items n (item_of e) x.0 x.1).0 ∙ ap rule_at numbers ∙ (item_rules version items n (item_of e) y.0 y.1).0 in
    x.2 ∙ ap (broken_at (span_of e)) rules ∙ sym y.2

-- ---- the first of a text

one_place : (n m : ℕ) (r q : Break) → GoesBefore n r m q → GoesBefore m q n r → (n ≡ m) × (r.span.end ≡ q.span.end) × (number_of r.rule ≡ number_of q.rule)
one_place n m r q (inl x) (inl y) = absurd (omega (arith, x, y))
one_place n m r q (inl x) (inr y) = absurd (omega (arith, x, y.0))
one_place n m r q (inr x) (inl y) = absurd (omega (arith, y, x.0))
one_place n m r q (inr x) (inr y) = one_number n m r q x.0 x.1 y.1
  where
    one_number : (n m : ℕ) (r q : Break) → n ≡ m → (r.span.end < q.span.end) ⊎ ((r.span.end ≡ q.span.end) × (number_of r.rule ≤ number_of q.rule)) → (q.span.end < r.span.end) ⊎ ((q.span.end ≡ r.span.end) × (number_of q.rule ≤ number_of r.rule)) → (n ≡ m) × (r.span.end ≡ q.span.end) × (number_of r.rule ≡ number_of q.rule)
    one_number n m r q e (inl x) (inl y) = absurd (omega (arith, x, y))
    one_number n m r q e (inl x) (inr y) = absurd (omega (arith, x, y.0))
    one_number n m r q e (inr x) (inl y) = absurd (omega (arith, y, x.0))
    one_number n m r q e (inr x) (inr y) = (e, x.0, omega (arith, x.1, y.1))

there_placed : (items : List Tree) (n : ℕ) (e : Tree) → AllPlaced items → slice_get items n ≡ Some e → IsPlaced e
there_placed [] n e p h = absurd (none_some e {o = slice_get [] n} refl h)
there_placed (d ∷ ds) zero e p h = subst IsPlaced (some_same d e h) p.0
there_placed (d ∷ ds) (suc n) e p h = there_placed ds n e p.1 h

pub one_form_rule : (version : Version) (items : List Tree) → AllPlaced items → (r q : Break) → IsFirstBreak version items r → IsFirstBreak version items q → r ≡ q
one_form_rule version items p r q h k =
    let x = one_place h.place k.place r q (h.first k.place q k.breaks) (k.first h.place r h.breaks) in
    let e = some_same k.breaks.item h.breaks.item (sym k.breaks.there ∙ ap (slice_get items) (sym x.0) ∙ h.breaks.there) in
    let here = subst (λ d. IsAmong q (breaks_of version items k.place d)) e k.breaks.broken in
    let also = subst (λ n. IsAmong q (breaks_of version items n h.breaks.item)) (sym x.0) here in
    same_break version (map item_of items) h.place h.breaks.item (there_placed items h.place h.breaks.item p h.breaks.there) r q x.1 x.2
    (in_breaks h.breaks.item (left_out_in h.breaks.item) (rules_of version (map item_of items) h.place (item_of h.breaks.item)) r h.breaks.broken)
    (in_breaks h.breaks.item (left_out_in h.breaks.item) (rules_of version (map item_of items) h.place (item_of h.breaks.item)) q also)
