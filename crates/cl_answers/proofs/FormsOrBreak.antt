-- Items are forms, or one of them breaks a rule first.
use Rattle.std.proofs.Common.{◌≡◌, ◌⊎◌, inl, inr, ℕ, suc, ◌+◌, ◌-◌, ◌<◌, List, [], ◌∷◌, ◌++◌, map, slice_get, Option, Some, None, refl, sym, ap, subst, ◌∙◌, arith}
use Rattle.std.specs.Prelude.{is_none, option_map}
use Rattle.std.proofs.lemmas.Bool.{cases_order}
use Rattle.cl_sexpr.specs.declared.sexpr.Span.{Span}
use Rattle.cl_sexpr.specs.declared.rule.Rule.{Rule}
use Rattle.cl_sexpr.specs.declared.rule.Rule.TheVariants.{BadType, NotInProfile}
use Rattle.cl_sexpr.specs.declared.rule.Break.{Break}
use Rattle.cl_sexpr.specs.Tree.{Tree, span_of}
use Rattle.cl_forms.specs.declared.version.Version.{Version}
use Rattle.cl_forms.specs.Forms.{Form, FormKind, ExpressionForm}
use Rattle.cl_forms.specs.Items.{Item, Expression, Misshapen, Definition, item_of, kind_of, form_by, form_of}
use Rattle.cl_forms.specs.FormBreaks.{left_out_in, when, rules_of, broken_at, breaks_of, IsAmong, Breaks, GoesBefore, IsFirstBreak, AreForms}
use Rattle.cl_forms.specs.Looks.{look_at, first_from, break_of}
use Rattle.cl_forms.proofs.Firsts.{IsFirst, item_first}

abbrev AreUnbroken : Version → List Tree → Type 0
AreUnbroken version items = (n : ℕ) (r : Break) → Breaks version items n r → ⊥

same_item : (d e : Tree) → Some d ≡ Some e → d ≡ e
same_item d e h = cc

-- ---- the first item that breaks a rule

-- what breaks at a place is the item there
breaks_there : (version : Version) (items : List Tree) (n : ℕ) (e : Tree) (q : Break) → slice_get items n ≡ Some e → Breaks version items n q → IsAmong q (breaks_of version items n e)
breaks_there version items n e q there b =
    subst (λ (item : Tree). IsAmong q (breaks_of version items n item)) (same_item b.item e (sym b.there ∙ there)) b.broken

nothing_there : (version : Version) (items : List Tree) (n : ℕ) (q : Break) → slice_get items n ≡ None → Breaks version items n q → ⊥
nothing_there version items n q none b = by b.item (sym none ∙ b.there)
  where
    by : (e : Tree) → None ≡ Some e → ⊥
    by e h = cc

-- the rest of the items stands at a place of them
abbrev IsRest : List Tree → ℕ → List Tree → Type 0
IsRest items n rest = (k : ℕ) → slice_get items (n + k) ≡ slice_get rest k

first_there : (items : List Tree) (n : ℕ) (e : Tree) (rest : List Tree) → IsRest items n (e ∷ rest) → slice_get items n ≡ Some e
first_there items n e rest at = ap (slice_get items) here ∙ at 0
  where
    here : n ≡ n + 0
    here = omega arith

others_there : (items : List Tree) (n : ℕ) (e : Tree) (rest : List Tree) → IsRest items n (e ∷ rest) → IsRest items (n + 1) rest
others_there items n e rest at k = ap (slice_get items) (behind k) ∙ at (suc k)
  where
    behind : (k : ℕ) → (n + 1) + k ≡ n + suc k
    behind k = omega arith

-- no item before a place breaks a rule
abbrev UnbrokenBefore : Version → List Tree → ℕ → Type 0
UnbrokenBefore version items n = (m : ℕ) (q : Break) → m < n → Breaks version items m q → ⊥

all_unbroken : (version : Version) (items : List Tree) (n : ℕ) → IsRest items n [] → UnbrokenBefore version items n → AreUnbroken version items
all_unbroken version items n at before m q b = by (cases_order m n)
  where
    past : n < m → slice_get items m ≡ None
    past far = ap (slice_get items) there ∙ at (m - n)
      where
        there : m ≡ n + (m - n)
        there = omega (arith, far)

    by : (m ≡ n) ⊎ ((m < n) ⊎ (n < m)) → ⊥
    by (inl same) = nothing_there version items m q (ap (slice_get items) (same ∙ end) ∙ at 0) b
      where
        end : n ≡ n + 0
        end = omega arith
    by (inr (inl near)) = before m q near b
    by (inr (inr far)) = nothing_there version items m q (past far) b

one_more_unbroken : (version : Version) (items : List Tree) (n : ℕ) (e : Tree) → slice_get items n ≡ Some e → ((q : Break) → IsAmong q (breaks_of version items n e) → ⊥) → UnbrokenBefore version items n → UnbrokenBefore version items (n + 1)
one_more_unbroken version items n e there none before m q near b = by (cases_order m n)
  where
    by : (m ≡ n) ⊎ ((m < n) ⊎ (n < m)) → ⊥
    by (inl same) = none q (breaks_there version items n e q there (subst (λ (k : ℕ). Breaks version items k q) same b))
    by (inr (inl lower)) = before m q lower b
    by (inr (inr far)) = absurd (omega (arith, near, far))

is_first : (version : Version) (items : List Tree) (n : ℕ) (e : Tree) (r : Break) → slice_get items n ≡ Some e → IsFirst (breaks_of version items n e) (Some r) → UnbrokenBefore version items n → IsFirstBreak version items r
is_first version items n e r there f before = record { place = n; breaks = record { item = e; there = there; broken = f.0 }; first = first }
  where
    first : (m : ℕ) (q : Break) → Breaks version items m q → GoesBefore n r m q
    first m q b = by (cases_order m n)
      where
        by : (m ≡ n) ⊎ ((m < n) ⊎ (n < m)) → GoesBefore n r m q
        by (inl same) = inr (sym same, f.1 q (breaks_there version items n e q there (subst (λ (k : ℕ). Breaks version items k q) same b)))
        by (inr (inl lower)) = absurd (before m q lower b)
        by (inr (inr far)) = inl far

unbroken_or_first : (version : Version) (items : List Tree) (n : ℕ) (rest : List Tree) → IsRest items n rest → UnbrokenBefore version items n → AreUnbroken version items ⊎ ((r : Break) × IsFirstBreak version items r)
unbroken_or_first version items n [] at before = inl (all_unbroken version items n at before)
unbroken_or_first version items n (e ∷ rest) at before =
    by (break_of version (first_from 0 (map item_of items)) n (look_at e)) (item_first version items n e)
    (λ later. unbroken_or_first version items (n + 1) rest (others_there items n e rest at) later)
  where
    by : (o : Option Break) → IsFirst (breaks_of version items n e) o → (UnbrokenBefore version items (n + 1) → AreUnbroken version items ⊎ ((r : Break) × IsFirstBreak version items r)) → AreUnbroken version items ⊎ ((r : Break) × IsFirstBreak version items r)
    by (Some r) f go_on = inr (r, is_first version items n e r (first_there items n e rest at) f before)
    by None f go_on = go_on (one_more_unbroken version items n e (first_there items n e rest at) f before)

-- ---- forms

kind_there : (o : Option FormKind) (rules : List Rule) → when (is_none o) BadType rules ≡ [] → (kind : FormKind) × (o ≡ Some kind)
kind_there None rules h = absurd cc
kind_there (Some kind) rules h = (kind, refl)

abbrev named : List ℕ → Span → FormKind → Form
named name span kind = record { name = Some name; kind = kind; span = span }

form_there : (version : Version) (items : List Item) (n : ℕ) (item : Item) (span : Span) → rules_of version items n item ≡ [] → (form : Form) × (form_by item span ≡ Some form)
form_there version items n (Expression e) span h = (record { name = None; kind = ExpressionForm e; span = span }, refl)
form_there version items n Misshapen span h = absurd cc
form_there version items n (Definition name draft) span h =
    let kind = kind_there (kind_of draft) _ h in
    (named name span kind.0, ap (option_map (named name span)) kind.1)

among_behind : (r : Break) (xs ys : List Break) → IsAmong r ys → IsAmong r (xs ++ ys)
among_behind r [] ys h = h
among_behind r (x ∷ xs) ys h = inr (among_behind r xs ys h)

no_rules : (xs : List Break) (span : Span) (rules : List Rule) → ((r : Break) → IsAmong r (xs ++ map (broken_at span) rules) → ⊥) → rules ≡ []
no_rules xs span [] none = refl
no_rules xs span (rule ∷ rules) none = absurd (none (broken_at span rule) (among_behind (broken_at span rule) xs (map (broken_at span) (rule ∷ rules)) (inl refl)))

unbroken_form : (version : Version) (items : List Tree) (n : ℕ) (e : Tree) → AreUnbroken version items → slice_get items n ≡ Some e → (form : Form) × (form_of e ≡ Some form)
unbroken_form version items n e unbroken there =
    form_there version (map item_of items) n (item_of e) (span_of e)
    (no_rules (map (λ at. broken_at at NotInProfile) (left_out_in e)) (span_of e) (rules_of version (map item_of items) n (item_of e))
    (λ r among. unbroken n r (record { item = e; there = there; broken = among })))

forms_there : (version : Version) (items : List Tree) (n : ℕ) (rest : List Tree) → IsRest items n rest → AreUnbroken version items → (forms : List Form) × (map form_of rest ≡ map Some forms)
forms_there version items n [] at unbroken = ([], refl)
forms_there version items n (e ∷ rest) at unbroken =
    let first = unbroken_form version items n e unbroken (first_there items n e rest at) in
    let others = forms_there version items (n + 1) rest (others_there items n e rest at) unbroken in
    (first.0 ∷ others.0, λ i. first.1 i ∷ others.1 i)

pub forms_or_break : (version : Version) (items : List Tree) → ((forms : List Form) × AreForms version items forms) ⊎ ((r : Break) × IsFirstBreak version items r)
forms_or_break version items = by (unbroken_or_first version items 0 items at (λ m q near b. omega (arith, near)))
  where
    here : (k : ℕ) → 0 + k ≡ k
    here k = omega arith

    at : IsRest items 0 items
    at k = ap (slice_get items) (here k)

    by : AreUnbroken version items ⊎ ((r : Break) × IsFirstBreak version items r) → ((forms : List Form) × AreForms version items forms) ⊎ ((r : Break) × IsFirstBreak version items r)
    by (inl unbroken) = let there = forms_there version items 0 items at unbroken in inl (there.0, record { unbroken = unbroken; forms_are = there.1 })
    by (inr first) = inr first
