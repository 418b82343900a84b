-- The first break of an item, and of items.
use Rattle.std.specs.Prelude.{◌≡◌, ◌⊎◌, ℕ, zero, suc, ◌+◌, ◌-◌, ◌≤◌, ◌<◌, ◌||◌, ◌&&◌, Bool, true, false, List, [], ◌∷◌, ◌++◌, if◌then◌else◌, nat_lt, nat_eq, map, take, fold, is_none, is_some, slice_get, Option, Some, None, option_map, refl}
use Rattle.std.specs.List.{list_any}
use Rattle.std.specs.Option.{option_or}
use Rattle.std.proofs.Common.{◌∙◌, sym, ap, subst, inl, inr, arith, lit≤}
use Rattle.std.proofs.lemmas.Bool.Decides.{nat_tests}
use Rattle.cl_sexpr.specs.declared.sexpr.Span.{Span}
use Rattle.cl_sexpr.specs.declared.rule.Rule.{Rule}
use Rattle.cl_sexpr.specs.declared.rule.Rule.TheVariants.{BadType, BadName, NotInProfile, NameUsed}
use Rattle.cl_sexpr.specs.declared.rule.Break.{Break}
use Rattle.cl_sexpr.specs.Rules.{number_of}
use Rattle.cl_sexpr.specs.Tree.{Tree, span_of}
use Rattle.cl_forms.specs.declared.entry.Entry.{Entry}
use Rattle.cl_forms.specs.ItemView.{plain_item}
use Rattle.cl_forms.specs.Forms.{Form}
use Rattle.cl_forms.specs.Heads.{Version}
use Rattle.cl_forms.specs.Names.{stands_twice}
use Rattle.cl_forms.specs.Items.{Item, Expression, Misshapen, Definition, item_of, kind_of, form_of}
use Rattle.cl_forms.specs.FormBreaks.{left_out_in, params_of, defines, is_defined, uses_name, when, rules_of, broken_at, breaks_of, IsAmong, Breaks, GoesBefore, IsFirstBreak, AreForms}
use Rattle.cl_forms.specs.Looks.{earliest, look_at, plain_entry, Table, first_from, is_before, is_used, has_reserved, rules_by, comes_last, first_of, first_at, break_of, first_broken, form_at}

-- ---- the table of names says which names are used

pub is_some_first : (k : ℕ) (items : List Item) (x : List ℕ) → is_some (first_from k items x) ≡ is_defined items x
is_some_first k [] x = refl
is_some_first k (item ∷ items) x =
    elim (defines x item) as (λ b. is_some (if b then Some k else first_from (k + 1) items x) ≡ (b || is_defined items x)) [ true ↦ refl | false ↦ is_some_first (k + 1) items x ]

not_before : (j k : ℕ) (items : List Item) (x : List ℕ) → j ≤ k → is_before j (first_from k items x) ≡ false
not_before j k [] x h = refl
not_before j k (item ∷ items) x h =
    elim (defines x item) as (λ b. is_before j (if b then Some k else first_from (k + 1) items x) ≡ false)
    [ true ↦ grind (arith, nat_tests) | false ↦ not_before j (k + 1) items x (omega arith) ]

pub before_first : (j k n : ℕ) (items : List Item) (x : List ℕ) → j ≡ k + n → is_before j (first_from k items x) ≡ is_defined (take n items) x
before_first j k zero items x e = not_before j k items x (omega arith)
before_first j k (suc n) [] x e = refl
before_first j k (suc n) (item ∷ items) x e =
    elim (defines x item) as (λ b. is_before j (if b then Some k else first_from (k + 1) items x) ≡ (b || is_defined (take n items) x))
    [ true ↦ grind (arith, nat_tests) | false ↦ before_first j (k + 1) n items x (omega arith) ]

used_same : (items : List Item) (n : ℕ) (name : List ℕ) (params : List (List ℕ)) → is_used (first_from 0 items) n name params ≡ uses_name items n name params
used_same items n name params i = before_first n 0 n items name (omega arith) i || stands_twice params || list_any (λ p. is_some_first 0 items p i) params

pub rules_same : (version : Version) (items : List Item) (n : ℕ) (item : Item) → rules_by version (first_from 0 items) n item ≡ rules_of version items n item
rules_same version items n (Expression e) = refl
rules_same version items n Misshapen = refl
rules_same version items n (Definition name draft) =
    ap (λ b. when (is_none (kind_of draft)) BadType (when (has_reserved version name (params_of draft)) BadName (when b NameUsed []))) (used_same items n name (params_of draft))

-- ---- the first of breaks within one item

abbrev Before : Break → Break → Type 0
Before r q = (r.span.end < q.span.end) ⊎ ((r.span.end ≡ q.span.end) × (number_of r.rule ≤ number_of q.rule))

-- a break that is among breaks and goes before each, or no break
abbrev pub IsFirst : List Break → Option Break → Type 0
IsFirst rs None = (q : Break) → IsAmong q rs → ⊥
IsFirst rs (Some r) = IsAmong r rs × ((q : Break) → IsAmong q rs → Before r q)

among_left : (r : Break) (xs ys : List Break) → IsAmong r xs → IsAmong r (xs ++ ys)
among_left r [] ys h = absurd h
among_left r (x ∷ xs) ys (inl e) = inl e
among_left r (x ∷ xs) ys (inr h) = inr (among_left r xs ys h)

among_right : (r : Break) (xs ys : List Break) → IsAmong r ys → IsAmong r (xs ++ ys)
among_right r [] ys h = h
among_right r (x ∷ xs) ys h = inr (among_right r xs ys h)

among_either : (r : Break) (xs ys : List Break) → IsAmong r (xs ++ ys) → IsAmong r xs ⊎ IsAmong r ys
among_either r [] ys h = inr h
among_either r (x ∷ xs) ys (inl e) = inl (inl e)
among_either r (x ∷ xs) ys (inr h) = elim (among_either r xs ys h) [ inl k ↦ inl (inr k) | inr k ↦ inr k ]

abbrev out : Span → Break
out at = broken_at at NotInProfile

itself : (n : ℕ) → n ≤ n
itself n = omega arith

cases_lt : (m n : ℕ) → m ≤ n → (m < n) ⊎ (m ≡ n)
cases_lt m n h = grind arith

-- an atom goes before a rule with the item's span
left_out_goes : (a s q k l : ℕ) (last : Bool) → (nat_lt a s || (nat_eq a s && last)) ≡ true → ((last ≡ true) × (k ≡ 5)) ⊎ ((last ≡ false) × (k ≤ 3)) → q ≡ s → k ≤ l → (a < q) ⊎ ((a ≡ q) × (4 ≤ l))
left_out_goes a s q k l true e (inl h) f g = grind (arith, nat_tests)
left_out_goes a s q k l true e (inr h) f g = absurd cc
left_out_goes a s q k l false e (inl h) f g = absurd cc
left_out_goes a s q k l false e (inr h) f g = grind (arith, nat_tests)

-- a rule with the item's span goes before an atom
rule_goes : (a s q k l : ℕ) (last : Bool) → (nat_lt a s || (nat_eq a s && last)) ≡ false → ((last ≡ true) × (k ≡ 5)) ⊎ ((last ≡ false) × (k ≤ 3)) → (a < q) ⊎ ((a ≡ q) × (4 ≤ l)) → (s < q) ⊎ ((s ≡ q) × (k ≤ l))
rule_goes a s q k l true e (inl h) (inl f) = grind (arith, nat_tests)
rule_goes a s q k l true e (inl h) (inr f) = grind (arith, nat_tests)
rule_goes a s q k l true e (inr h) f = absurd cc
rule_goes a s q k l false e (inl h) f = absurd cc
rule_goes a s q k l false e (inr h) (inl f) = grind (arith, nat_tests)
rule_goes a s q k l false e (inr h) (inr f) = grind (arith, nat_tests)

-- of two atoms the one that ends first goes before what the other goes before
out_before : (r : Break) (s b : Span) → s.end ≤ b.end → Before r (out s) → Before r (out b)
out_before r s b h (inl k) = inl (omega arith)
out_before r s b h (inr k) = elim (cases_lt s.end b.end h) [ inl l ↦ inl (omega arith) | inr e ↦ inr (omega arith, k.1) ]

at_itself : (r q : Break) → q ≡ r → Before r q
at_itself r q e = inr (ap (λ (b : Break). b.span.end) (sym e), subst (λ (b : Break). number_of r.rule ≤ number_of b.rule) (sym e) (itself (number_of r.rule)))

before_same : (r q p : Break) → q ≡ p → Before r p → Before r q
before_same r q p e h = subst (λ (b : Break). Before r b) (sym e) h

first_swaps : (s b : Span) (rs : List Break) (o : Option Break) → s.end ≤ b.end → IsFirst (out s ∷ rs) o → IsFirst (out b ∷ out s ∷ rs) o
first_swaps s b rs None h f = absurd (f (out s) (inl refl))
first_swaps s b rs (Some r) h f = (inr f.0, later) where
  later : (q : Break) → IsAmong q (out b ∷ out s ∷ rs) → Before r q
  later q (inl e) = before_same r q (out b) e (out_before r s b h (f.1 (out s) (inl refl)))
  later q (inr k) = f.1 q k

first_skips : (s b : Span) (rs : List Break) (o : Option Break) → b.end ≤ s.end → IsFirst (out b ∷ rs) o → IsFirst (out b ∷ out s ∷ rs) o
first_skips s b rs None h f = absurd (f (out b) (inl refl))
first_skips s b rs (Some r) h f = (there f.0, later) where
  there : IsAmong r (out b ∷ rs) → IsAmong r (out b ∷ out s ∷ rs)
  there (inl e) = inl e
  there (inr k) = inr (inr k)

  later : (q : Break) → IsAmong q (out b ∷ out s ∷ rs) → Before r q
  later q (inl e) = f.1 q (inl e)
  later q (inr (inl e)) = before_same r q (out s) e (out_before r b s h (f.1 (out b) (inl refl)))
  later q (inr (inr k)) = f.1 q (inr k)

first_of_two : (s b : Span) (ss : List Span) (t : Bool) → nat_lt s.end b.end ≡ t → IsFirst (out s ∷ map out ss) (option_map out (fold earliest (Some s) ss)) → IsFirst (out b ∷ map out ss) (option_map out (fold earliest (Some b) ss)) → IsFirst (out b ∷ out s ∷ map out ss) (option_map out (fold earliest (if t then Some s else Some b) ss))
first_of_two s b ss true e f g = first_swaps s b (map out ss) (option_map out (fold earliest (Some s) ss)) (grind (arith, nat_tests)) f
first_of_two s b ss false e f g = first_skips s b (map out ss) (option_map out (fold earliest (Some b) ss)) (grind (arith, nat_tests)) g

earliest_first : (b : Span) (ss : List Span) → IsFirst (out b ∷ map out ss) (option_map out (fold earliest (Some b) ss))
earliest_first b [] = (inl refl, λ q h. at_itself (out b) q (elim h [ inl e ↦ e | inr k ↦ absurd k ]))
earliest_first b (s ∷ ss) = first_of_two s b ss (nat_lt s.end b.end) refl (earliest_first s ss) (earliest_first b ss)

left_out_first : (ss : List Span) → IsFirst (map out ss) (option_map out (fold earliest None ss))
left_out_first [] = λ q h. h
left_out_first (s ∷ ss) = earliest_first s ss

-- the number of a rule of items, but for an atom that is left out
abbrev IsItemRule : Rule → Type 0
IsItemRule rule = ((comes_last rule ≡ true) × (number_of rule ≡ 5)) ⊎ ((comes_last rule ≡ false) × (number_of rule ≤ 3))

abbrev AreAtLeast : ℕ → List Rule → Type 0
AreAtLeast n [] = Unit {0}
AreAtLeast n (rule ∷ rules) = (n ≤ number_of rule) × AreAtLeast n rules

abbrev AreRuled : List Rule → Type 0
AreRuled [] = Unit {0}
AreRuled (rule ∷ rules) = IsItemRule rule × AreAtLeast (number_of rule) rules

three_ruled : (a b c : Bool) → AreRuled (when a BadType (when b BadName (when c NameUsed [])))
three_ruled true true true = (inr (refl, lit≤ tt), (lit≤ tt, (lit≤ tt, tt)))
three_ruled true true false = (inr (refl, lit≤ tt), (lit≤ tt, tt))
three_ruled true false true = (inr (refl, lit≤ tt), (lit≤ tt, tt))
three_ruled true false false = (inr (refl, lit≤ tt), tt)
three_ruled false true true = (inr (refl, lit≤ tt), (lit≤ tt, tt))
three_ruled false true false = (inr (refl, lit≤ tt), tt)
three_ruled false false true = (inl (refl, refl), tt)
three_ruled false false false = tt

ruled : (version : Version) (table : Table) (n : ℕ) (item : Item) → AreRuled (rules_by version table n item)
ruled version table n (Expression e) = tt
ruled version table n Misshapen = (inr (refl, lit≤ tt), tt)
ruled version table n (Definition name draft) = three_ruled (is_none (kind_of draft)) (has_reserved version name (params_of draft)) (is_used table n name (params_of draft))

at_span : (span : Span) (n : ℕ) (rules : List Rule) (q : Break) → AreAtLeast n rules → IsAmong q (map (broken_at span) rules) → (q.span.end ≡ span.end) × (n ≤ number_of q.rule)
at_span span n [] q least h = absurd h
at_span span n (rule ∷ rules) q least (inl e) = (ap (λ (b : Break). b.span.end) e, subst (λ (b : Break). n ≤ number_of b.rule) (sym e) least.0)
at_span span n (rule ∷ rules) q least (inr h) = at_span span n rules q least.1 h

-- the rule goes before the rules behind it
rules_first : (span : Span) (rule : Rule) (rules : List Rule) (q : Break) → AreAtLeast (number_of rule) rules → IsAmong q (map (broken_at span) (rule ∷ rules)) → (q.span.end ≡ span.end) × (number_of rule ≤ number_of q.rule)
rules_first span rule rules q least h = at_span span (number_of rule) (rule ∷ rules) q (itself (number_of rule), least) h

with_rule : (ss : List Span) (o : Option Span) (span : Span) (rule : Rule) (rules : List Rule) → IsFirst (map out ss) (option_map out o) → IsItemRule rule → AreAtLeast (number_of rule) rules → IsFirst (map out ss ++ map (broken_at span) (rule ∷ rules)) (Some (first_of o rule span))
with_rule ss None span rule rules f kind least = (among_right (broken_at span rule) (map out ss) _ (inl refl), later) where
  later : (q : Break) → IsAmong q (map out ss ++ map (broken_at span) (rule ∷ rules)) → Before (broken_at span rule) q
  later q h =
      elim (among_either q (map out ss) (map (broken_at span) (rule ∷ rules)) h)
      [ inl k ↦ absurd (f q k) | inr k ↦ let e = rules_first span rule rules q least k in inr (sym e.0, e.1) ]
with_rule ss (Some at) span rule rules f kind least = by_test (nat_lt at.end span.end || (nat_eq at.end span.end && comes_last rule)) refl where
  by_test : (t : Bool) → (nat_lt at.end span.end || (nat_eq at.end span.end && comes_last rule)) ≡ t → IsFirst (map out ss ++ map (broken_at span) (rule ∷ rules)) (Some (if t then broken_at at NotInProfile else broken_at span rule))
  by_test true e = (among_left (out at) (map out ss) _ f.0, later) where
    later : (q : Break) → IsAmong q (map out ss ++ map (broken_at span) (rule ∷ rules)) → Before (out at) q
    later q h =
        elim (among_either q (map out ss) (map (broken_at span) (rule ∷ rules)) h)
        [ inl k ↦ f.1 q k | inr k ↦ let g = rules_first span rule rules q least k in left_out_goes at.end span.end q.span.end (number_of rule) (number_of q.rule) (comes_last rule) e kind g.0 g.1 ]
  by_test false e = (among_right (broken_at span rule) (map out ss) _ (inl refl), later) where
    later : (q : Break) → IsAmong q (map out ss ++ map (broken_at span) (rule ∷ rules)) → Before (broken_at span rule) q
    later q h =
        elim (among_either q (map out ss) (map (broken_at span) (rule ∷ rules)) h)
        [ inl k ↦ rule_goes at.end span.end q.span.end (number_of rule) (number_of q.rule) (comes_last rule) e kind (f.1 q k) | inr k ↦ let g = rules_first span rule rules q least k in inr (sym g.0, g.1) ]

append_none : (xs : List Break) → xs ++ [] ≡ xs
append_none [] = refl
append_none (x ∷ xs) = ap (λ ys. x ∷ ys) (append_none xs)

whole_first : (ss : List Span) (span : Span) (rules : List Rule) → AreRuled rules → IsFirst (map out ss ++ map (broken_at span) rules) (first_at rules (fold earliest None ss) span)
whole_first ss span [] h = subst (λ rs. IsFirst rs (option_map out (fold earliest None ss))) (sym (append_none (map out ss))) (left_out_first ss)
whole_first ss span (rule ∷ rules) h = with_rule ss (fold earliest None ss) span rule rules (left_out_first ss) h.0 h.1

-- what is found of an item is its first break
pub item_first : (version : Version) (items : List Tree) (n : ℕ) (e : Tree) → IsFirst (breaks_of version items n e) (break_of version (first_from 0 (map item_of items)) n (look_at e))
item_first version items n e =
    subst (λ rules. IsFirst (map out (left_out_in e) ++ map (broken_at (span_of e)) rules) (break_of version (first_from 0 (map item_of items)) n (look_at e)))
    (rules_same version (map item_of items) n (item_of e))
    (whole_first (left_out_in e) (span_of e) (rules_by version (first_from 0 (map item_of items)) n (item_of e)) (ruled version (first_from 0 (map item_of items)) n (item_of e)))

some_same : (d e : Tree) → Some d ≡ Some e → d ≡ e
some_same d e h = cc

some_same_break : (q r : Break) → Some q ≡ Some r → q ≡ r
some_same_break q r h = cc

plus_none : (n : ℕ) → n + 0 ≡ n
plus_none n = omega arith

plus_more : (n k : ℕ) → (n + 1) + k ≡ n + suc k
plus_more n k = omega arith

none_plus : (k : ℕ) → 0 + k ≡ k
none_plus k = omega arith

-- ---- the first of breaks of all items

-- from a place on a break that goes before each, or no break
abbrev pub IsFirstFrom : Version → List Tree → ℕ → Option Break → Type 0
IsFirstFrom version items n None = (m : ℕ) (q : Break) → n ≤ m → Breaks version items m q → ⊥
IsFirstFrom version items n (Some r) = (place : ℕ) × (n ≤ place) × Breaks version items place r × ((m : ℕ) (q : Break) → n ≤ m → Breaks version items m q → GoesBefore place r m q)

past_end : (version : Version) (items : List Tree) (n : ℕ) → ((k : ℕ) → slice_get items (n + k) ≡ None) → (m : ℕ) (q : Break) → n ≤ m → Breaks version items m q → ⊥
past_end version items n none m q h b =
    let e : n + (m - n) ≡ m = omega arith in
    let f : None ≡ Some b.item = sym (none (m - n)) ∙ ap (slice_get items) e ∙ b.there in
    absurd cc

-- the item at a place is the one that breaks there
at_place : (version : Version) (items : List Tree) (n : ℕ) (e : Tree) (q : Break) → slice_get items n ≡ Some e → Breaks version items n q → IsAmong q (breaks_of version items n e)
at_place version items n e q there b =
    let same_item : b.item ≡ e = some_same b.item e (sym b.there ∙ there) in
    subst (λ (item : Tree). IsAmong q (breaks_of version items n item)) same_item b.broken

later_place : (n m : ℕ) → n ≤ m → (n ≡ m) ⊎ (n + 1 ≤ m)
later_place n m h = grind arith

join_first : (version : Version) (items : List Tree) (n : ℕ) (e : Tree) (here rest : Option Break) → slice_get items n ≡ Some e → IsFirst (breaks_of version items n e) here → IsFirstFrom version items (n + 1) rest → IsFirstFrom version items n (option_or here rest)
join_first version items n e (Some r) rest there f g = (n, itself n, record { item = e; there = there; broken = f.0 }, later) where
  later : (m : ℕ) (q : Break) → n ≤ m → Breaks version items m q → GoesBefore n r m q
  later m q h b =
      elim (later_place n m h) [
        | inl k ↦ inr (k, f.1 q (at_place version items n e q there (subst (λ (j : ℕ). Breaks version items j q) (sym k) b)))
        | inr k ↦ inl (omega arith)
      ]
join_first version items n e None None there f g = later where
  later : (m : ℕ) (q : Break) → n ≤ m → Breaks version items m q → ⊥
  later m q h b =
      elim (later_place n m h) [
        | inl k ↦ f q (at_place version items n e q there (subst (λ (j : ℕ). Breaks version items j q) (sym k) b))
        | inr k ↦ g m q k b
      ]
join_first version items n e None (Some r) there f g = (g.0, omega (arith, g.1), g.2, later) where
  later : (m : ℕ) (q : Break) → n ≤ m → Breaks version items m q → GoesBefore g.0 r m q
  later m q h b =
      elim (later_place n m h) [
        | inl k ↦ absurd (f q (at_place version items n e q there (subst (λ (j : ℕ). Breaks version items j q) (sym k) b)))
        | inr k ↦ g.3 m q k b
      ]

firsts : (version : Version) (items : List Tree) (n : ℕ) (rest : List Tree) → ((k : ℕ) → slice_get items (n + k) ≡ slice_get rest k) → IsFirstFrom version items n (first_broken version (first_from 0 (map item_of items)) n (map look_at rest))
firsts version items n [] at = past_end version items n at
firsts version items n (e ∷ rest) at =
    join_first version items n e (break_of version (first_from 0 (map item_of items)) n (look_at e)) (first_broken version (first_from 0 (map item_of items)) (n + 1) (map look_at rest))
    (ap (slice_get items) (sym (plus_none n)) ∙ at 0) (item_first version items n e)
    (firsts version items (n + 1) rest (λ k. ap (slice_get items) (plus_more n k) ∙ at (suc k)))

whole_firsts : (version : Version) (items : List Tree) → IsFirstFrom version items 0 (first_broken version (first_from 0 (map item_of items)) 0 (map look_at items))
whole_firsts version items = firsts version items 0 items (λ k. ap (slice_get items) (none_plus k))

as_first : (version : Version) (items : List Tree) (o : Option Break) (r : Break) → IsFirstFrom version items 0 o → o ≡ Some r → IsFirstBreak version items r
as_first version items None r f e = absurd cc
as_first version items (Some q) r f e =
    subst (λ (b : Break). IsFirstBreak version items b) (some_same_break q r e)
    (record { place = f.0; breaks = f.2; first = λ m p b. f.3 m p (omega arith) b })

as_none : (version : Version) (items : List Tree) (o : Option Break) → IsFirstFrom version items 0 o → o ≡ None → (n : ℕ) (r : Break) → Breaks version items n r → ⊥
as_none version items None f e n r b = f n r (omega arith) b
as_none version items (Some q) f e n r b = absurd cc

-- ---- what the code keeps of items

looked_items : (ts : List Tree) → map (λ x. x.item) (map look_at ts) ≡ map item_of ts
looked_items [] = refl
looked_items (t ∷ ts) = ap (λ us. item_of t ∷ us) (looked_items ts)

looked_forms : (ts : List Tree) → map form_at (map look_at ts) ≡ map form_of ts
looked_forms [] = refl
looked_forms (t ∷ ts) = ap (λ us. form_of t ∷ us) (looked_forms ts)

entry_items : (es : List Entry) → map (λ x. x.item) (map plain_entry es) ≡ map (λ e. plain_item e.item) es
entry_items [] = refl
entry_items (e ∷ es) = ap (λ us. plain_item e.item ∷ us) (entry_items es)

module _ (version : Version) (ts : List Tree) (es : List Entry) (look : Table) (seen : map plain_entry es ≡ map look_at ts) (table : (x : List ℕ) → look x ≡ first_from 0 (map (λ e. plain_item e.item) es) x) where
  same_table : look ≡ first_from 0 (map item_of ts)
  same_table =
      let e : map (λ e. plain_item e.item) es ≡ map item_of ts = sym (entry_items es) ∙ ap (map (λ x. x.item)) seen ∙ looked_items ts in
      (λ i x. table x i) ∙ ap (first_from 0) e

  same_broken : first_broken version (first_from 0 (map item_of ts)) 0 (map look_at ts) ≡ first_broken version look 0 (map plain_entry es)
  same_broken = sym (ap (λ t. first_broken version t 0 (map plain_entry es)) same_table ∙ ap (first_broken version (first_from 0 (map item_of ts)) 0) seen)

  pub forms_broken : (r : Break) → first_broken version look 0 (map plain_entry es) ≡ Some r → IsFirstBreak version ts r
  forms_broken r e = as_first version ts _ r (whole_firsts version ts) (same_broken ∙ e)

  pub forms_found : (fs : List Form) → (first_broken version look 0 (map plain_entry es) ≡ None) × (map form_at (map plain_entry es) ≡ map Some fs) → AreForms version ts fs
  forms_found fs h = record {
    unbroken = as_none version ts _ (whole_firsts version ts) (same_broken ∙ h.0);
    forms_are = sym (looked_forms ts) ∙ ap (map form_at) (sym seen) ∙ h.1;
  }
