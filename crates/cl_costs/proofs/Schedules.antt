-- The table of a schedule changes with the number of the epoch alone.
use Rattle.std.proofs.Common.{◌≡◌, ℕ, suc, ◌+◌, ◌<◌, ◌≤◌, length, drop, get_or, ap, ◌∙◌, nat_le, leb-true, leb-false, ◌++◌, subst, Bool, true, false, List, [], ◌∷◌, refl, sym, arith}
use Rattle.std.specs.Prelude.{if◌then◌else◌}
use Rattle.std.proofs.lemmas.List.{drop_more, drop_all}
use Rattle.std.proofs.lemmas.Bool.{le-leb, lt-leb}
use Rattle.cl_shapes.specs.declared.function.CostFn.{CostFn}
use Rattle.cl_costs.specs.Schedules.{Epoch, ScheduleSeen, RiseFrom, IsBefore, begun, last_begun, epoch_at, table_at}

begun_rises : (a b : ℕ) → a ≤ b → (es : List Epoch) → begun a es ≤ begun b es
begun_rises a b h [] = omega arith
begun_rises a b h (e ∷ es) = by (nat_le e.0 a) refl (nat_le e.0 b) refl (begun_rises a b h es)
  where
    by : (s : Bool) → nat_le e.0 a ≡ s → (t : Bool) → nat_le e.0 b ≡ t → begun a es ≤ begun b es → (if s then suc (begun a es) else begun a es) ≤ (if t then suc (begun b es) else begun b es)
    by true i true j more = omega (arith, more)
    by true i false j more = let low = leb-true e.0 a i in let high = leb-false e.0 b j in omega (arith, low, high, h)
    by false i true j more = omega (arith, more)
    by false i false j more = more

begun_alike : (a b : ℕ) → a ≤ b → (es : List Epoch) → begun a es ≡ begun b es → (table : List CostFn) → last_begun a table es ≡ last_begun b table es
begun_alike a b h [] e table = refl
begun_alike a b h (d ∷ es) e table = by (nat_le d.0 a) refl (nat_le d.0 b) refl e (λ same t. begun_alike a b h es same t)
  where
    by : (s : Bool) → nat_le d.0 a ≡ s → (t : Bool) → nat_le d.0 b ≡ t → (if s then suc (begun a es) else begun a es) ≡ (if t then suc (begun b es) else begun b es) → (begun a es ≡ begun b es → (u : List CostFn) → last_begun a u es ≡ last_begun b u es) → last_begun a (if s then d.1 else table) es ≡ last_begun b (if t then d.1 else table) es
    by true i true j same more = more (omega (arith, same)) d.1
    by true i false j same more = let low = leb-true d.0 a i in let high = leb-false d.0 b j in absurd (omega (arith, low, high, h))
    by false i true j same more = let low = begun_rises a b h es in absurd (omega (arith, low, same))
    by false i false j same more = more same table

pub one_table : (schedule : ScheduleSeen) (a b : ℕ) → epoch_at schedule a ≡ epoch_at schedule b → table_at schedule a ≡ table_at schedule b
unfolding epoch_at table_at
one_table schedule a b e = by (nat_le a b) refl
  where
    by : (t : Bool) → nat_le a b ≡ t → last_begun a schedule.first schedule.epochs ≡ last_begun b schedule.first schedule.epochs
    by true i = begun_alike a b (leb-true a b i) schedule.epochs e schedule.first
    by false i = let high = leb-false a b i in sym (begun_alike b a (omega (arith, high)) schedule.epochs (sym e) schedule.first)

pub epochs_rise : (schedule : ScheduleSeen) (a b : ℕ) → a ≤ b → epoch_at schedule a ≤ epoch_at schedule b
unfolding epoch_at
epochs_rise schedule a b h = begun_rises a b h schedule.epochs

-- ---- one epoch after another

pub begun_few : (height : ℕ) (es : List Epoch) → begun height es ≤ length es
begun_few height [] = omega arith
begun_few height (e ∷ es) = by (nat_le e.0 height) (begun_few height es)
  where
    by : (b : Bool) → begun height es ≤ length es → (if b then suc (begun height es) else begun height es) ≤ suc (length es)
    by true more = omega (arith, more)
    by false more = omega (arith, more)

module _ (height : ℕ) (es : List Epoch) (i : ℕ) (e : Epoch) (h : i < length es) (is : e ≡ get_or es i e) where
  rest_is : drop i es ≡ e ∷ drop (i + 1) es
  rest_is = drop_more es i e h ∙ ap (λ d. d ∷ drop (i + 1) es) (sym is)

  pub begun_there : nat_le e.0 height ≡ true → begun height (drop i es) ≡ suc (begun height (drop (i + 1) es))
  begun_there b = ap (begun height) rest_is ∙ ap (λ b. if b then suc (begun height (drop (i + 1) es)) else begun height (drop (i + 1) es)) b

  pub begun_not : nat_le e.0 height ≡ false → begun height (drop i es) ≡ begun height (drop (i + 1) es)
  begun_not b = ap (begun height) rest_is ∙ ap (λ b. if b then suc (begun height (drop (i + 1) es)) else begun height (drop (i + 1) es)) b

  pub last_there : (table : List CostFn) → nat_le e.0 height ≡ true → last_begun height table (drop i es) ≡ last_begun height e.1 (drop (i + 1) es)
  last_there table b = ap (last_begun height table) rest_is ∙ ap (λ b. last_begun height (if b then e.1 else table) (drop (i + 1) es)) b

  pub last_not : (table : List CostFn) → nat_le e.0 height ≡ false → last_begun height table (drop i es) ≡ last_begun height table (drop (i + 1) es)
  last_not table b = ap (last_begun height table) rest_is ∙ ap (λ b. last_begun height (if b then e.1 else table) (drop (i + 1) es)) b

pub begun_end : (height : ℕ) (es : List Epoch) (i : ℕ) → length es ≤ i → begun height (drop i es) ≡ 0
begun_end height es i h = ap (begun height) (drop_all i es h)

pub last_end : (height : ℕ) (table : List CostFn) (es : List Epoch) (i : ℕ) → length es ≤ i → last_begun height table (drop i es) ≡ table
last_end height table es i h = ap (last_begun height table) (drop_all i es h)

-- ---- where epochs begin

if_yes : {A : Type 0} (b : Bool) (x y : A) → b ≡ true → (if b then x else y) ≡ x
if_yes true x y e = refl
if_yes false x y e = absurd cc

if_no : {A : Type 0} (b : Bool) (x y : A) → b ≡ false → (if b then x else y) ≡ y
if_no false x y e = refl
if_no true x y e = absurd cc

-- none of the epochs has begun
none_begun : (n height : ℕ) (es : List Epoch) → RiseFrom n es → IsBefore height es → (table : List CostFn) → (last_begun height table es ≡ table) × (begun height es ≡ 0)
none_begun n height [] rise before table = (refl, refl)
none_begun n height (e ∷ es) rise before table =
    let no : nat_le e.0 height ≡ false = lt-leb e.0 height before in
    let rest = none_begun (suc e.0) height es rise.1 (later es rise.1) table in
    (ap (λ t. last_begun height t es) (if_no (nat_le e.0 height) e.1 table no) ∙ rest.0, if_no (nat_le e.0 height) (suc (begun height es)) (begun height es) no ∙ rest.1)
  where
    later : (ds : List Epoch) → RiseFrom (suc e.0) ds → IsBefore height ds
    later [] r = tt
    later (d ∷ ds) r = omega (arith, r.0, before)

-- an epoch behind others begins no lower than they may
no_lower : (n : ℕ) (before : List Epoch) (e : Epoch) (after : List Epoch) → RiseFrom n (before ++ e ∷ after) → n ≤ e.0
no_lower n [] e after rise = rise.0
no_lower n (d ∷ ds) e after rise = let more = no_lower (suc d.0) ds e after rise.1 in omega (arith, rise.0, more)

rules : (n : ℕ) (before : List Epoch) (e : Epoch) (after : List Epoch) (height : ℕ) → RiseFrom n (before ++ e ∷ after) → e.0 ≤ height → IsBefore height after → (table : List CostFn) → (last_begun height table (before ++ e ∷ after) ≡ e.1) × (begun height (before ++ e ∷ after) ≡ suc (length before))
rules n [] e after height rise low next table =
    let yes : nat_le e.0 height ≡ true = le-leb e.0 height low in
    let rest = none_begun (suc e.0) height after rise.1 next e.1 in
    (ap (λ t. last_begun height t after) (if_yes (nat_le e.0 height) e.1 table yes) ∙ rest.0, if_yes (nat_le e.0 height) (suc (begun height after)) (begun height after) yes ∙ ap suc rest.1)
rules n (d ∷ ds) e after height rise low next table =
    let above = no_lower (suc d.0) ds e after rise.1 in
    let yes : nat_le d.0 height ≡ true = le-leb d.0 height (omega (arith, above, low)) in
    let rest = rules (suc d.0) ds e after height rise.1 low next d.1 in (
      ap (λ t. last_begun height t (ds ++ e ∷ after)) (if_yes (nat_le d.0 height) d.1 table yes) ∙ rest.0,
      if_yes (nat_le d.0 height) (suc (begun height (ds ++ e ∷ after))) (begun height (ds ++ e ∷ after)) yes ∙ ap suc rest.1,
    )

pub first_rules : (schedule : ScheduleSeen) (height : ℕ) → RiseFrom 1 schedule.epochs → IsBefore height schedule.epochs → (table_at schedule height ≡ schedule.first) × (epoch_at schedule height ≡ 0)
unfolding epoch_at table_at
first_rules schedule height rise before = none_begun 1 height schedule.epochs rise before schedule.first

pub each_rules : (schedule : ScheduleSeen) (before after : List Epoch) (e : Epoch) (height : ℕ) → RiseFrom 1 schedule.epochs → schedule.epochs ≡ before ++ e ∷ after → e.0 ≤ height → IsBefore height after → (table_at schedule height ≡ e.1) × (epoch_at schedule height ≡ suc (length before))
unfolding epoch_at table_at
each_rules schedule before after e height rise is low next =
    let r = rules 1 before e after height (subst (RiseFrom 1) is rise) low next schedule.first in
    (ap (last_begun height schedule.first) is ∙ r.0, ap (begun height) is ∙ r.1)
