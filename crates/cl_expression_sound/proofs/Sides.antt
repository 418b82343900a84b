-- Entries of sequences, side by side.
use Rattle.std.proofs.Common.{◌≡◌, ℕ, suc, ◌≤◌, min, Bool, true, false, List, [], ◌∷◌, map, length, Option, Some, None, refl, sym, ap, subst, ◌∙◌, arith}
use Rattle.std.specs.Prelude.{◌&&◌}
use Rattle.std.specs.List.{list_all}
use Rattle.cl_types.specs.Types.{PlainType}
use Rattle.cl_types.specs.Sized.{length_of}
use Rattle.cl_values.specs.Tree.{Tree as Val}
use Rattle.cl_values.specs.Sequences.{entries_of}
use Rattle.cl_meaning.specs.Sequences.{and_head, heads, tails, and_more, side_by_side, and_entries, all_entries}
use Rattle.cl_rules.specs.CallShapes.{least_length}
use Rattle.cl_values.specs.Typed.{AreOf, AllOf, HasEntriesOf}
use Rattle.cl_native_sound.proofs.ValuesFit.{values_fit}
use Rattle.cl_types.specs.TypeKinds.{is_sequence, entry_of}

pub first_true : (a b : Bool) → (a && b) ≡ true → a ≡ true
first_true true b h = refl
first_true false b h = absurd cc

pub rest_true : (a b : Bool) → (a && b) ≡ true → b ≡ true
rest_true true b h = h
rest_true false b h = absurd cc

-- rows of entries, each of the type that stands there
abbrev pub AreRowsOf : List PlainType → List (List Val) → Type 0
AreRowsOf [] [] = Unit {0}
AreRowsOf (t ∷ ts) (xs ∷ rows) = AllOf xs t × AreRowsOf ts rows
AreRowsOf ts rows = ⊥

-- none of the rows is shorter
abbrev pub NoneShorter : ℕ → List (List Val) → Type 0
NoneShorter n [] = Unit {0}
NoneShorter n (xs ∷ rows) = (n ≤ length xs) × NoneShorter n rows

-- values side by side of these types
abbrev pub AllRows : List PlainType → List (List Val) → Type 0
AllRows ts [] = Unit {0}
AllRows ts (r ∷ rs) = AreOf r ts × AllRows ts rs

zero_shorter : (rows : List (List Val)) → NoneShorter 0 rows
zero_shorter [] = tt
zero_shorter (xs ∷ rows) = (omega arith, zero_shorter rows)

some_head : (x : Val) (o : Option (List Val)) (vs : List Val) → and_head x o ≡ Some vs → (ws : List Val) × (o ≡ Some ws) × (vs ≡ x ∷ ws)
some_head x (Some ws) vs h = (ws, refl, sym (same_list (x ∷ ws) vs h))
  where
    same_list : (a b : List Val) → Some a ≡ Some b → a ≡ b
    same_list a b h = cc
some_head x None vs h = absurd cc

heads_of : (ts : List PlainType) (rows : List (List Val)) (vs : List Val) → AreRowsOf ts rows → heads rows ≡ Some vs → AreOf vs ts
heads_of [] [] [] i h = tt
heads_of [] [] (v ∷ vs) i h = absurd cc
heads_of [] (xs ∷ rows) vs i h = absurd i
heads_of (t ∷ ts) [] vs i h = absurd i
heads_of (t ∷ ts) ([] ∷ rows) vs i h = absurd cc
heads_of (t ∷ ts) ((x ∷ xs) ∷ rows) vs i h =
    let s = some_head x (heads rows) vs h in
    subst (λ vs. AreOf vs (t ∷ ts)) (sym s.2) (i.0.0, heads_of ts rows s.0 i.1 s.1)

tails_of : (ts : List PlainType) (rows : List (List Val)) → AreRowsOf ts rows → AreRowsOf ts (tails rows)
tails_of [] [] i = tt
tails_of [] (xs ∷ rows) i = absurd i
tails_of (t ∷ ts) [] i = absurd i
tails_of (t ∷ ts) ([] ∷ rows) i = (tt, tails_of ts rows i.1)
tails_of (t ∷ ts) ((x ∷ xs) ∷ rows) i = (i.0.1, tails_of ts rows i.1)

longer : (n : ℕ) (rows : List (List Val)) (vs : List Val) → heads rows ≡ Some vs → NoneShorter n (tails rows) → NoneShorter (suc n) rows
longer n [] vs h i = tt
longer n ([] ∷ rows) vs h i = absurd cc
longer n ((x ∷ xs) ∷ rows) vs h i =
    let s = some_head x (heads rows) vs h in
    let low : n ≤ length xs = i.0 in
    (omega (arith, low), longer n rows s.0 s.1 i.1)

-- what stands side by side has the types, and no row is shorter
pub sides : (t : PlainType) (ts : List PlainType) (xs : List Val) (rows : List (List Val)) → AllOf xs t → AreRowsOf ts rows → AllRows (t ∷ ts) (side_by_side xs rows) × NoneShorter (length (side_by_side xs rows)) (xs ∷ rows)
sides t ts [] rows i j = (tt, zero_shorter ([] ∷ rows))
sides t ts (x ∷ xs) rows i j = by (heads rows) refl (sides t ts xs (tails rows) i.1 (tails_of ts rows j))
  where
    by : (o : Option (List Val)) → heads rows ≡ o → AllRows (t ∷ ts) (side_by_side xs (tails rows)) × NoneShorter (length (side_by_side xs (tails rows))) (xs ∷ tails rows) → AllRows (t ∷ ts) (and_more x o (side_by_side xs (tails rows))) × NoneShorter (length (and_more x o (side_by_side xs (tails rows)))) ((x ∷ xs) ∷ rows)
    by None h k = (tt, zero_shorter ((x ∷ xs) ∷ rows))
    by (Some vs) h k =
        let low : length (side_by_side xs (tails rows)) ≤ length xs = k.1.0 in
        (((i.0, heads_of ts rows vs j h), k.0), (omega (arith, low), longer (length (side_by_side xs (tails rows))) rows vs h k.1.1))

-- ---- the entries of sequences

-- the entries of all of them
pub record AreAllEntries (ts : List PlainType) (o : Option (List (List Val))) : Type 0 where
  pub rows : List (List Val)
  pub there : o ≡ Some rows
  pub typed : AreRowsOf (map entry_of ts) rows
  pub least : (n : ℕ) → NoneShorter n rows → (t : PlainType) (us : List PlainType) → ts ≡ t ∷ us → n ≤ least_length ts

min_low : (n a b : ℕ) → n ≤ a → n ≤ b → n ≤ min a b
min_low n a b h k = omega (arith, h, k)

pub entries_there : (ts : List PlainType) (vs : List Val) → list_all is_sequence ts ≡ true → AreOf vs ts → AreAllEntries ts (all_entries vs)
entries_there [] [] h i = record { rows = []; there = refl; typed = tt; least = λ n k t us e. absurd cc }
entries_there [] (v ∷ vs) h i = absurd i
entries_there (t ∷ ts) [] h i = absurd i
entries_there (t ∷ ts) (v ∷ vs) h i = by ts (values_fit.entries t v i.0 (first_true (is_sequence t) _ h)) (entries_there ts vs (rest_true (is_sequence t) _ h) i.1)
  where
    by : (ts : List PlainType) → HasEntriesOf v t → AreAllEntries ts (all_entries vs) → AreAllEntries (t ∷ ts) (and_entries (entries_of v) (all_entries vs))
    by ts e r = record {
      rows = e.entries ∷ r.rows;
      there = ap (λ o. and_entries o (all_entries vs)) e.there ∙ ap (λ o. and_entries (Some e.entries) o) r.there;
      typed = (e.typed, r.typed);
      least = λ n k u us same. low ts n (few n k.0 e.few) (r.least n k.1);
    }
      where
        few : (n : ℕ) → n ≤ length e.entries → length e.entries ≤ length_of t → n ≤ length_of t
        few n a b = omega (arith, a, b)

        low : (ts : List PlainType) (n : ℕ) → n ≤ length_of t → ((u : PlainType) (us : List PlainType) → ts ≡ u ∷ us → n ≤ least_length ts) → n ≤ least_length (t ∷ ts)
        low [] n a b = a
        low (u ∷ us) n a b = min_low n (length_of t) (least_length (u ∷ us)) a (b u us refl)
