-- Keys put in order rise just where no key stands twice.
use Rattle.std.proofs.Common.{◌≡◌, ℕ, List, Bool, true, false, not, ◌&&◌, ◌||◌, nat_eq, if◌then◌else◌, refl, ap, sym, ◌∙◌, true≢false}
use Rattle.std.specs.Cmp.{both_ways, first_so}
use Rattle.std.specs.Cmp.Lexicographic.{pointwise}
use Rattle.std.proofs.lemmas.Bool.{and_parts, and_from, or_from, or_parts, not-true, not_from_false}
use Rattle.cl_types.specs.Types.{PlainType, TupleType, Fields, NoField, Field}
use Rattle.cl_types.specs.Sized.{has_key, is_among, differ, is_below, rises_from, rises, fields_rise, placed, in_order}
use Rattle.cl_types.proofs.KeyOrder.{keys_ordered, below_below, below_differs, above_differs, below_or_above}

-- a key below the first of a rising row isn't in it
not_among : (k i : List ℕ) (gs : Fields) → is_below k i ≡ true → rises_from i gs ≡ true → is_among k gs ≡ false
not_among k i NoField p r = refl
not_among k i (Field h v hs) p r =
    let up = and_parts (is_below i h) (rises_from h hs) r in
    let below : is_below k h ≡ true = below_below k i h p up.0 in
    or_from (pointwise nat_eq k h) (is_among k hs) (below_differs k h below) (not_among k h hs below up.1)

record Fits (j k : List ℕ) (gs : Fields) : Type 0 where
  below : is_below j k ≡ true
  new : is_among k gs ≡ false
  rest : rises_from j gs ≡ true

rises_to : (j k : List ℕ) (t : PlainType) (gs : Fields) → rises_from j (placed k t gs) ≡ true → Fits j k gs
rises_to j k t NoField h = record { below = first_so (is_below j k) true h; new = refl; rest = refl }
rises_to j k t (Field i v hs) h =
    elim (is_below i k) as (λ b. is_below i k ≡ b → rises_from j (if b then Field i v (placed k t hs) else Field k t (Field i v hs)) ≡ true → Fits j k (Field i v hs)) [
      | true ↦ λ e g.
          let up = and_parts (is_below j i) (rises_from i (placed k t hs)) g in
          let more : Fits i k hs = rises_to i k t hs up.1 in
          record {
            below = below_below j i k up.0 e;
            new = or_from (pointwise nat_eq k i) (is_among k hs) (above_differs k i e) more.new;
            rest = and_from (is_below j i) (rises_from i hs) up.0 more.rest;
          }
      | false ↦ λ e g.
          let up = and_parts (is_below j k) (is_below k i && rises_from i hs) g in
          let on = and_parts (is_below k i) (rises_from i hs) up.1 in
          record {
            below = up.0;
            new = or_from (pointwise nat_eq k i) (is_among k hs) (below_differs k i on.0) (not_among k i hs on.0 on.1);
            rest = and_from (is_below j i) (rises_from i hs) (below_below j k i up.0 on.0) on.1;
          }
    ] refl h

rises_back : (j k : List ℕ) (t : PlainType) (gs : Fields) → Fits j k gs → rises_from j (placed k t gs) ≡ true
rises_back j k t NoField f = and_from (is_below j k) true f.below refl
rises_back j k t (Field i v hs) f =
    let other = or_parts (pointwise nat_eq k i) (is_among k hs) f.new in
    let up = and_parts (is_below j i) (rises_from i hs) f.rest in
    elim (is_below i k) as (λ b. is_below i k ≡ b → rises_from j (if b then Field i v (placed k t hs) else Field k t (Field i v hs)) ≡ true) [
      | true ↦ λ e. and_from (is_below j i) (rises_from i (placed k t hs)) up.0 (rises_back i k t hs (record { below = e; new = other.1; rest = up.1 }))
      | false ↦ λ e. and_from (is_below j k) (is_below k i && rises_from i hs) f.below (and_from (is_below k i) (rises_from i hs) (below_or_above k i other.0 e) up.1)
    ] refl

on_to : (k : List ℕ) (t : PlainType) (gs : Fields) → fields_rise (placed k t gs) ≡ true → (not (is_among k gs) && fields_rise gs) ≡ true
on_to k t NoField h = refl
on_to k t (Field i v hs) h =
    elim (is_below i k) as (λ b. is_below i k ≡ b → fields_rise (if b then Field i v (placed k t hs) else Field k t (Field i v hs)) ≡ true → (not (is_among k (Field i v hs)) && rises_from i hs) ≡ true) [
      | true ↦ λ e g.
          let more : Fits i k hs = rises_to i k t hs g in
          and_from (not (is_among k (Field i v hs))) (rises_from i hs) (not_from_false (is_among k (Field i v hs)) (or_from (pointwise nat_eq k i) (is_among k hs) (above_differs k i e) more.new)) more.rest
      | false ↦ λ e g.
          let up = and_parts (is_below k i) (rises_from i hs) g in
          and_from (not (is_among k (Field i v hs))) (rises_from i hs) (not_from_false (is_among k (Field i v hs)) (or_from (pointwise nat_eq k i) (is_among k hs) (below_differs k i up.0) (not_among k i hs up.0 up.1))) up.1
    ] refl h

on_back : (k : List ℕ) (t : PlainType) (gs : Fields) → (not (is_among k gs) && fields_rise gs) ≡ true → fields_rise (placed k t gs) ≡ true
on_back k t NoField h = refl
on_back k t (Field i v hs) h =
    let parts = and_parts (not (is_among k (Field i v hs))) (rises_from i hs) h in
    let other = or_parts (pointwise nat_eq k i) (is_among k hs) (not-true (is_among k (Field i v hs)) parts.0) in
    elim (is_below i k) as (λ b. is_below i k ≡ b → fields_rise (if b then Field i v (placed k t hs) else Field k t (Field i v hs)) ≡ true) [
      | true ↦ λ e. rises_back i k t hs (record { below = e; new = other.1; rest = parts.1 })
      | false ↦ λ e. and_from (is_below k i) (rises_from i hs) (below_or_above k i other.0 e) parts.1
    ] refl

or_turned : (a b c : Bool) → (a || (b || c)) ≡ (b || (a || c))
or_turned true true c = refl
or_turned true false c = refl
or_turned false true c = refl
or_turned false false c = refl

among_placed : (q k : List ℕ) (t : PlainType) (gs : Fields) → is_among q (placed k t gs) ≡ (pointwise nat_eq q k || is_among q gs)
among_placed q k t NoField = refl
among_placed q k t (Field i v hs) =
    elim (is_below i k) as (λ b. is_among q (if b then Field i v (placed k t hs) else Field k t (Field i v hs)) ≡ (pointwise nat_eq q k || is_among q (Field i v hs))) [
      | true ↦ ap (λ (b : Bool). pointwise nat_eq q i || b) (among_placed q k t hs) ∙ or_turned (pointwise nat_eq q i) (pointwise nat_eq q k) (is_among q hs)
      | false ↦ refl
    ]

among_ordered : (q : List ℕ) (fs : Fields) → is_among q (in_order fs) ≡ is_among q fs
among_ordered q NoField = refl
among_ordered q (Field k t fs) =
    among_placed q k t (in_order fs) ∙ ap (λ (b : Bool). pointwise nat_eq q k || b) (among_ordered q fs)

on_differ : (fs : Fields) → fields_rise (in_order fs) ≡ differ fs
on_differ NoField = refl
on_differ (Field k t fs) =
    both_ways (fields_rise (placed k t (in_order fs))) (not (is_among k (in_order fs)) && fields_rise (in_order fs)) (on_to k t (in_order fs)) (on_back k t (in_order fs))
    ∙ (λ i. not (among_ordered k fs i) && on_differ fs i)

rises_on : (k : List ℕ) (t : PlainType) (gs : Fields) → rises (placed k t gs) ≡ fields_rise (placed k t gs)
rises_on k t NoField = refl
rises_on k t (Field i v hs) =
    elim (is_below i k) as (λ b. rises (if b then Field i v (placed k t hs) else Field k t (Field i v hs)) ≡ fields_rise (if b then Field i v (placed k t hs) else Field k t (Field i v hs))) [
      | true ↦ refl
      | false ↦ refl
    ]

pub rises_differ : (fs : Fields) → has_key (TupleType fs) ≡ true → rises (in_order fs) ≡ differ fs
rises_differ NoField h = absurd (true≢false (sym h))
rises_differ (Field k t fs) h = rises_on k t (in_order fs) ∙ on_differ (Field k t fs)

-- a row that rises is in order
pub ordered_again : (fs : Fields) → fields_rise fs ≡ true → in_order fs ≡ fs
ordered_again NoField h = refl
ordered_again (Field k t NoField) h = refl
ordered_again (Field k t (Field j u fs)) h =
    let up = and_parts (is_below k j) (rises_from j fs) h in
    let rest : in_order (Field j u fs) ≡ Field j u fs = ordered_again (Field j u fs) up.1 in
    let above : is_below j k ≡ false = keys_ordered.one_way k j up.0 in
    ap (λ (gs : Fields). placed k t gs) rest ∙ ap (λ (b : Bool). if b then Field j u (placed k t fs) else Field k t (Field j u fs)) above

pub rising_again : (fs : Fields) → rises fs ≡ true → in_order fs ≡ fs
rising_again NoField h = absurd (true≢false (sym h))
rising_again (Field k t fs) h = ordered_again (Field k t fs) h

-- of keys that rise, none stands twice
pub rising_differ : (fs : Fields) → rises fs ≡ true → differ fs ≡ true
rising_differ NoField h = absurd (true≢false (sym h))
rising_differ (Field k t fs) h = sym (on_differ (Field k t fs)) ∙ ap fields_rise (ordered_again (Field k t fs) h) ∙ h

-- ---- what rises stays so

pub rising_fields : (fs : Fields) → rises fs ≡ true → fields_rise fs ≡ true
rising_fields NoField h = refl
rising_fields (Field k t fs) h = h

-- fields above a key rise, and it isn't among them
pub rest_rises : (k : List ℕ) (fs : Fields) → rises_from k fs ≡ true → fields_rise fs ≡ true
rest_rises k NoField h = refl
rest_rises k (Field j t fs) h = (and_parts (is_below k j) (rises_from j fs) h).1

pub absent_above : (k : List ℕ) (fs : Fields) → rises_from k fs ≡ true → is_among k fs ≡ false
absent_above k NoField h = refl
absent_above k (Field j t fs) h =
    let both = and_parts (is_below k j) (rises_from j fs) h in
    or_from (pointwise nat_eq k j) (is_among k fs) (below_differs k j both.0) (not_among k j fs both.0 both.1)

-- another key isn't among fields where it wasn't
pub absent_placed : (q k : List ℕ) (t : PlainType) (fs : Fields) → pointwise nat_eq q k ≡ false → is_among q fs ≡ false → is_among q (placed k t fs) ≡ false
absent_placed q k t fs d n = among_placed q k t fs ∙ or_from (pointwise nat_eq q k) (is_among q fs) d n

-- fields rise with a key more that wasn't among them
pub placed_rises : (k : List ℕ) (t : PlainType) (fs : Fields) → is_among k fs ≡ false → fields_rise fs ≡ true → rises (placed k t fs) ≡ true
placed_rises k t fs n h = rises_on k t fs ∙ on_back k t fs (and_from (not (is_among k fs)) (fields_rise fs) (not_from_false (is_among k fs) n) h)
