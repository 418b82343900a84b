-- Rows that are put behind one another, and the rows of a table.
use Rattle.std.proofs.Common.{◌≡◌, ℕ, zero, suc, ◌+◌, ◌<◌, ◌≤◌, List, [], ◌∷◌, ◌++◌, length, take, get_or, refl, ap, sym, subst, ◌∙◌, append_assoc, arith}
use Rattle.std.specs.Prelude.{T, Bool, true, false, cond, ◌&&◌, ◌⊎◌, Some, Contains}
use Rattle.std.specs.List.{All, AllZip, AllPairs, sum_by, AllByRecursion as ByRecursion}
use Rattle.std.specs.List.Sorted.{IsPermutation}
use Rattle.std.specs.declared.cmp.Ordering.{Ordering}
use Rattle.std.specs.declared.cmp.Ordering.TheVariants.{Less, Equal, Greater}
use Rattle.std.specs.Ordering.{is_eq, is_lt, ordering_reverse}
use Rattle.std.specs.FinMap.{is_sorted}
use Rattle.std.specs.FinMap.Entries as entries
use Rattle.std.specs.FinMap.Entries.{below_all}
use Rattle.std.proofs.lemmas.List.{append-nil, take_more}
use Rattle.std.proofs.lemmas.List.Elements.{All-from_recursion, recursion_from_All, Contains-append_left, Contains-append_right}
use Rattle.std.proofs.lemmas.List.Kept.{AllPairs-cons}
use Rattle.std.proofs.lemmas.List.Sorted.{IsPermutation-sym, All-permutation, Contains-permutation, sum_by-IsPermutation}
use Rattle.std.proofs.lemmas.List.Sums.{sum_by-cons}
use Rattle.std.proofs.lemmas.Option.{none-some}
use Rattle.std.proofs.ByRecursion.{All-append as every_append}
use mathlib.Core.Logic.{inl, inr}
use Rattle.cl_maps.specs.Maps.{Map, key_cmp, get}
use Rattle.cl_maps.proofs.MapLaws.{keys_total, same_keys, self_equal}
use Rattle.cl_tokens.specs.Table.{is_key}
use Rattle.cl_tables.specs.declared.row.StateRow.{StateRow}
use Rattle.cl_tables.specs.Spelled.{Each}
use Rattle.cl_tables.specs.RowParts.{Lists, AreApart, AreJust, Adds}

-- ------------------------------------------------------------ lists

pub weaker : {X : Type 0} (P Q : X → Type 0) (xs : List X) → ((x : X) → P x → Q x) → ByRecursion P xs → ByRecursion Q xs
weaker P Q [] f h = tt
weaker P Q (x ∷ xs) f h = (f x h.0, weaker P Q xs f h.1)

apart_append : (P Q : StateRow → Type 0) (xs ys : List StateRow) → ((r : StateRow) → P r → Q r → ⊥) → ByRecursion P xs → ByRecursion Q ys → AreApart xs → AreApart ys → AreApart (xs ++ ys)
apart_append P Q [] ys never p q a b = b
apart_append P Q (x ∷ xs) ys never p q a b =
    (every_append (λ other. x ≡ other → ⊥) xs ys a.0 (weaker Q (λ other. x ≡ other → ⊥) ys (λ y is same. never y (subst P same p.0) is) q), apart_append P Q xs ys never p.1 q a.1 b)

-- ------------------------------------------------------------ parts behind one another

joined : (P Q : StateRow → Type 0) (xs ys : List StateRow) → AreJust P xs → AreJust Q ys → ((r : StateRow) → P r → Q r → ⊥) → AreJust (λ r. P r ⊎ Q r) (xs ++ ys)
joined P Q xs ys a b never = record {
  sound = every_append (λ r. P r ⊎ Q r) xs ys (weaker P (λ r. P r ⊎ Q r) xs (λ r h. inl h) a.sound) (weaker Q (λ r. P r ⊎ Q r) ys (λ r h. inr h) b.sound);
  whole = λ r is. elim is [ inl h ↦ Contains-append_left xs ys r (a.whole r h) | inr h ↦ Contains-append_right xs ys r (b.whole r h) ];
  once = apart_append P Q xs ys never a.sound b.sound a.once b.once;
}

pub adds_more : (P Q : StateRow → Type 0) (a b c : List StateRow) → Adds P a b → Adds Q b c → ((r : StateRow) → P r → Q r → ⊥) → Adds (λ r. P r ⊎ Q r) a c
adds_more P Q a b c first second never =
    (first.0 ++ second.0, second.1 ∙ ap (λ xs. xs ++ second.0) first.1 ∙ append_assoc a first.0 second.0, joined P Q first.0 second.0 first.2 second.2 never)

turned : (P Q : StateRow → Type 0) (xs : List StateRow) → AreJust P xs → ((r : StateRow) → P r → Q r) → ((r : StateRow) → Q r → P r) → AreJust Q xs
turned P Q xs a to from = record { sound = weaker P Q xs to a.sound; whole = λ r is. a.whole r (from r is); once = a.once }

pub adds_so : (P Q : StateRow → Type 0) (a b : List StateRow) → Adds P a b → ((r : StateRow) → P r → Q r) → ((r : StateRow) → Q r → P r) → Adds Q a b
adds_so P Q a b adds to from = (adds.0, adds.1, turned P Q adds.0 adds.2 to from)

pub adds_one : (a b : List StateRow) (row : StateRow) → b ≡ a ++ row ∷ [] → Adds (λ r. r ≡ row) a b
adds_one a b row is = (row ∷ [], is, record { sound = (refl, tt); whole = λ r same. (0, omega arith, sym same); once = (tt, tt) })

all_pairs : (rows : List StateRow) → AreApart rows → AllPairs (λ a b. a ≡ b → ⊥) rows
all_pairs [] apart = λ i j d below low. absurd (omega (arith, low))
all_pairs (r ∷ rows) apart = AllPairs-cons (λ a b. a ≡ b → ⊥) r rows (All-from_recursion (λ b. r ≡ b → ⊥) rows apart.0) (all_pairs rows apart.1)

-- what is added to nothing
pub all_added : (P : StateRow → Type 0) (rows : List StateRow) → Adds P [] rows → (All P rows) × ((r : StateRow) → P r → Contains rows r) × (AllPairs (λ a b. a ≡ b → ⊥) rows)
all_added P rows adds =
    let just : AreJust P rows = subst (AreJust P) (sym adds.1) adds.2 in
    (All-from_recursion P rows just.sound, just.whole, all_pairs rows just.once)

-- ------------------------------------------------------------ keys of a table's rows

reversed_less : (r : Ordering) → T (is_lt r) → is_eq r ≡ false
reversed_less Less h = refl
reversed_less Equal h = absurd h
reversed_less Greater h = absurd h

left_of : (a b : Bool) → T (a && b) → T a
left_of true b h = tt
left_of false b h = absurd h

right_of : (a b : Bool) → T (a && b) → T b
right_of true b h = h
right_of false b h = absurd h

turned_less : (r : Ordering) → T (is_lt r) → is_eq (ordering_reverse r) ≡ false
turned_less Less h = refl
turned_less Equal h = absurd h
turned_less Greater h = absurd h

above : (k q : List ℕ) → T (is_lt (key_cmp k q)) → is_key q k ≡ false
above k q h = ap is_eq (keys_total.antisymm q k) ∙ turned_less (key_cmp k q) h

module _ {A : Type 0} where
  abbrev hit : List ℕ → List ℕ × A → ℕ
  hit key e = cond (is_key key e.0) 1 0

  abbrev KeysApart : List (List ℕ × A) → Type 0
  KeysApart [] = Unit {0}
  KeysApart (e ∷ es) = ByRecursion (λ x. is_key e.0 x.0 ≡ false) es × KeysApart es

  none_equal : (key : List ℕ) (es : List (List ℕ × A)) → T (below_all key_cmp key es) → ByRecursion (λ x. is_key key x.0 ≡ false) es
  none_equal key [] low = tt
  none_equal key (e ∷ es) low = (reversed_less (key_cmp key e.0) (left_of _ _ low), none_equal key es (right_of _ _ low))

  no_hits : (key : List ℕ) (es : List (List ℕ × A)) → ByRecursion (λ x. is_key key x.0 ≡ false) es → sum_by (hit key) es ≡ 0
  no_hits key [] all = refl
  no_hits key (e ∷ es) all = sum_by-cons (hit key) e es ∙ (λ i. cond (all.0 i) 1 0 + no_hits key es all.1 i)

  hits_step : (key : List ℕ) (e : List ℕ × A) (es : List (List ℕ × A)) (b : Bool) → is_key key e.0 ≡ b → T (below_all key_cmp e.0 es) → sum_by (hit key) es ≤ 1 → cond b 1 0 + sum_by (hit key) es ≤ 1
  hits_step key e es true same low rest =
      let none : sum_by (hit key) es ≡ 0 = no_hits key es (subst (λ k. ByRecursion (λ (x : List ℕ × A). is_key k x.0 ≡ false) es) (sym (same_keys key e.0 same)) (none_equal e.0 es low)) in
      omega (arith, none)
  hits_step key e es false other low rest = omega (arith, rest)

  one_hit : (es : List (List ℕ × A)) → T (is_sorted key_cmp es) → (key : List ℕ) → sum_by (hit key) es ≤ 1
  one_hit [] rising key = omega arith
  one_hit (e ∷ es) rising key =
      subst (λ n. n ≤ 1) (sym (sum_by-cons (hit key) e es)) (hits_step key e es (is_key key e.0) refl (left_of _ _ rising) (one_hit es (right_of _ _ rising) key))

  unhit_step : (key : List ℕ) (e : List ℕ × A) (es : List (List ℕ × A)) (b : Bool) → is_key key e.0 ≡ b → cond b 1 0 + sum_by (hit key) es ≡ 0 → (sum_by (hit key) es ≡ 0 → ByRecursion (λ x. is_key key x.0 ≡ false) es)
      → ByRecursion (λ x. is_key key x.0 ≡ false) (e ∷ es)
  unhit_step key e es true same is rest = absurd (omega (arith, is))
  unhit_step key e es false other is rest = (other, rest (omega (arith, is)))

  unhit : (key : List ℕ) (es : List (List ℕ × A)) → sum_by (hit key) es ≡ 0 → ByRecursion (λ x. is_key key x.0 ≡ false) es
  unhit key [] is = tt
  unhit key (e ∷ es) is = unhit_step key e es (is_key key e.0) refl (sym (sum_by-cons (hit key) e es) ∙ is) (unhit key es)

  apart_by_hits : (es : List (List ℕ × A)) → ((key : List ℕ) → sum_by (hit key) es ≤ 1) → KeysApart es
  apart_by_hits [] few = tt
  apart_by_hits (e ∷ es) few =
      let own : sum_by (hit e.0) (e ∷ es) ≡ 1 + sum_by (hit e.0) es = sum_by-cons (hit e.0) e es ∙ ap (λ b. cond b 1 0 + sum_by (hit e.0) es) (self_equal e.0) in
      let most = few e.0 in
      (unhit e.0 es (omega (arith, own, most)), apart_by_hits es (λ key. let sum = sum_by-cons (hit key) e es in let all = few key in omega (arith, sum, all)))

  keys_apart : (es : List (List ℕ × A)) (m : Map A) → IsPermutation es m.list → KeysApart es
  keys_apart es m moved = apart_by_hits es (λ key. let same = sum_by-IsPermutation (hit key) es m.list moved in let few = one_hit m.list m.rising key in omega (arith, same, few))

  -- ------------------------------------------------------------ what is found

  -- entries above a key are found behind it as well
  found_behind : (key : List ℕ) (a : A) (es xs : List (List ℕ × A)) → T (below_all key_cmp key xs) → ByRecursion (λ x. entries.find key_cmp x.0 es ≡ Some x.1) xs
      → ByRecursion (λ x. entries.find key_cmp x.0 ((key, a) ∷ es) ≡ Some x.1) xs
  found_behind key a es [] low found = tt
  found_behind key a es (x ∷ xs) low found =
      (ap (λ b. cond b (Some a) (entries.find key_cmp x.0 es)) (above key x.0 (left_of _ _ low)) ∙ found.0, found_behind key a es xs (right_of _ _ low) found.1)

  -- each entry of a list whose keys rise is found
  each_found : (es : List (List ℕ × A)) → T (is_sorted key_cmp es) → ByRecursion (λ e. entries.find key_cmp e.0 es ≡ Some e.1) es
  each_found [] rising = tt
  each_found (e ∷ es) rising =
      (ap (λ b. cond b (Some e.1) (entries.find key_cmp e.0 es)) (self_equal e.0), found_behind e.0 e.1 es es (left_of _ _ rising) (each_found es (right_of _ _ rising)))

  -- what is found stands in the list
  pub stands : (key : List ℕ) (a : A) (es : List (List ℕ × A)) → entries.find key_cmp key es ≡ Some a → Contains es (key, a)
  stands key a [] is = absurd (none-some a is)
  stands key a (e ∷ es) is =
      elim (is_key key e.0) as (λ b. is_key key e.0 ≡ b → cond b (Some e.1) (entries.find key_cmp key es) ≡ Some a → Contains (e ∷ es) (key, a)) [
        | true ↦ λ same here. let value : e.1 ≡ a = cc in (0, omega arith, λ i. (sym (same_keys key e.0 same) i, value i))
        | false ↦ λ same behind. let rest = stands key a es behind in (suc rest.0, omega (arith, rest.1), rest.2)
      ] refl is

  pub rows_found : (es : List (List ℕ × A)) (m : Map A) → IsPermutation es m.list → ByRecursion (λ e. get e.0 m ≡ Some e.1) es
  rows_found es m moved =
      let P : List ℕ × A → Type 0 = λ e. get e.0 m ≡ Some e.1 in
      recursion_from_All P es (All-permutation P m.list es (IsPermutation-sym es m.list moved) (All-from_recursion P m.list (each_found m.list m.rising)))

  -- what each entry of a map has, the rows of its table have
  pub rows_have : (P : List ℕ → A → Type 0) (es : List (List ℕ × A)) (m : Map A) → IsPermutation es m.list → Each P m → ByRecursion (λ e. P e.0 e.1) es
  rows_have P es m moved each = weaker (λ e. get e.0 m ≡ Some e.1) (λ e. P e.0 e.1) es (λ e is. each e.0 e.1 is) (rows_found es m moved)

  -- ------------------------------------------------------------ rows of a table's rows

  zipped_more : (R : List ℕ × A → StateRow → Type 0) (es : List (List ℕ × A)) (rows : List StateRow) (e : List ℕ × A) (row : StateRow) → AllZip R es rows → R e row → AllZip R (es ++ e ∷ []) (rows ++ row ∷ [])
  zipped_more R [] [] e row zip is = (is, tt)
  zipped_more R [] (r ∷ rows) e row zip is = absurd zip
  zipped_more R (x ∷ es) [] e row zip is = absurd zip
  zipped_more R (x ∷ es) (r ∷ rows) e row zip is = (zip.0, zipped_more R es rows e row zip.1 is)

  -- a row more is put behind the others
  pub listed_more : (R : List ℕ × A → StateRow → Type 0) (es : List (List ℕ × A)) (e : List ℕ × A) (a b c : List StateRow) (row : StateRow) → Lists R es a b → R e row → c ≡ b ++ row ∷ [] → Lists R (es ++ e ∷ []) a c
  listed_more R es e a b c row lists is more =
      (lists.0 ++ row ∷ [], more ∙ ap (λ xs. xs ++ row ∷ []) lists.1 ∙ append_assoc a lists.0 (row ∷ []), zipped_more R es lists.0 e row lists.2 is)

  pub listed_none : (R : List ℕ × A → StateRow → Type 0) (a b : List StateRow) → b ≡ a → Lists R [] a b
  listed_none R a b is = ([], is ∙ sym (append-nil a), tt)

  pub listed_next : (R : List ℕ × A → StateRow → Type 0) (es : List (List ℕ × A)) (i : ℕ) (e : List ℕ × A) (a b c : List StateRow) (row : StateRow) → i < length es → e ≡ get_or es i e → Lists R (take i es) a b → R e row → c ≡ b ++ row ∷ [] → Lists R (take (i + 1) es) a c
  listed_next R es i e a b c row low at lists is more =
      subst (λ xs. Lists R xs a c) (ap (λ x. take i es ++ x ∷ []) at ∙ sym (take_more es i e low)) (listed_more R (take i es) e a b c row lists is more)

  -- the rows so far, of entries that are taken off
  abbrev pub Underway : (List ℕ × A → StateRow → Type 0) → List (List ℕ × A) → List (List ℕ × A) → List StateRow → List StateRow → Type 0
  Underway R whole rest a b = (front : List (List ℕ × A)) × (front ++ rest ≡ whole) × Lists R front a b

  pub underway_more : (R : List ℕ × A → StateRow → Type 0) (whole rest next : List (List ℕ × A)) (e : List ℕ × A) (a b c : List StateRow) (row : StateRow) → Underway R whole rest a b → rest ≡ e ∷ next → R e row → c ≡ b ++ row ∷ [] → Underway R whole next a c
  underway_more R whole rest next e a b c row so_far split is more =
      (so_far.0 ++ e ∷ [], append_assoc so_far.0 (e ∷ []) next ∙ ap (λ xs. so_far.0 ++ xs) (sym split) ∙ so_far.1, listed_more R so_far.0 e a b c row so_far.2 is more)

  module _ (m : Map A) (R : List ℕ × A → StateRow → Type 0) (key_of_row : StateRow → List ℕ) (same : (e : List ℕ × A) (r : StateRow) → R e r → e.0 ≡ key_of_row r) (one : (e : List ℕ × A) (r q : StateRow) → R e r → R e q → r ≡ q) where
    abbrev pub OfMap : StateRow → Type 0
    OfMap r = (e : List ℕ × A) × (get e.0 m ≡ Some e.1) × R e r

    zip_sound : (es : List (List ℕ × A)) (rows : List StateRow) → AllZip R es rows → ByRecursion (λ e. get e.0 m ≡ Some e.1) es → ByRecursion OfMap rows
    zip_sound [] [] zip found = tt
    zip_sound [] (r ∷ rows) zip found = absurd zip
    zip_sound (e ∷ es) [] zip found = absurd zip
    zip_sound (e ∷ es) (r ∷ rows) zip found = ((e, found.0, zip.0), zip_sound es rows zip.1 found.1)

    zip_at : (es : List (List ℕ × A)) (rows : List StateRow) → AllZip R es rows → (k : ℕ) (e : List ℕ × A) (r : StateRow) → k < length es → get_or es k e ≡ e → R e r → Contains rows r
    zip_at [] rows zip k e r low at is = absurd (omega (arith, low))
    zip_at (x ∷ es) [] zip k e r low at is = absurd zip
    zip_at (x ∷ es) (q ∷ rows) zip zero e r low at is = (0, omega arith, one e q r (subst (λ y. R y q) at zip.0) is)
    zip_at (x ∷ es) (q ∷ rows) zip (suc k) e r low at is = let rest = zip_at es rows zip.1 k e r (omega (arith, low)) at is in (suc rest.0, omega (arith, rest.1), rest.2)

    other_key : (key : List ℕ) (e : List ℕ × A) (r q : StateRow) → R e q → is_key key e.0 ≡ false → key ≡ key_of_row r → r ≡ q → ⊥
    other_key key e r q is other mine equal =
        let tied : key ≡ e.0 = mine ∙ ap key_of_row equal ∙ sym (same e q is) in
        subst T (sym (self_equal key) ∙ ap (is_key key) tied ∙ other) tt

    zip_others : (key : List ℕ) (r : StateRow) (es : List (List ℕ × A)) (rows : List StateRow) → AllZip R es rows → ByRecursion (λ x. is_key key x.0 ≡ false) es → key ≡ key_of_row r → ByRecursion (λ q. r ≡ q → ⊥) rows
    zip_others key r [] [] zip others mine = tt
    zip_others key r [] (q ∷ rows) zip others mine = absurd zip
    zip_others key r (e ∷ es) [] zip others mine = absurd zip
    zip_others key r (e ∷ es) (q ∷ rows) zip others mine = (other_key key e r q zip.0 others.0 mine, zip_others key r es rows zip.1 others.1 mine)

    zip_apart : (es : List (List ℕ × A)) (rows : List StateRow) → AllZip R es rows → KeysApart es → AreApart rows
    zip_apart [] [] zip apart = tt
    zip_apart [] (r ∷ rows) zip apart = absurd zip
    zip_apart (e ∷ es) [] zip apart = absurd zip
    zip_apart (e ∷ es) (r ∷ rows) zip apart = (zip_others e.0 r es rows zip.1 apart.0 (same e r zip.0), zip_apart es rows zip.1 apart.1)

    whole_map : (es : List (List ℕ × A)) (rows : List StateRow) → IsPermutation es m.list → AllZip R es rows → (r : StateRow) → OfMap r → Contains rows r
    whole_map es rows moved zip r is =
        let there = Contains-permutation m.list es is.0 (IsPermutation-sym es m.list moved) (stands is.0.0 is.0.1 m.list is.1) in
        zip_at es rows zip there.0 is.0 r there.1 there.2 is.2

    -- the rows of a table's rows are just those of its map
    pub just_of_map : (es : List (List ℕ × A)) (a b : List StateRow) → IsPermutation es m.list → Lists R es a b → Adds OfMap a b
    just_of_map es a b moved lists = (
      lists.0,
      lists.1,
      record {
        sound = zip_sound es lists.0 lists.2 (rows_found es m moved);
        whole = whole_map es lists.0 moved lists.2;
        once = zip_apart es lists.0 lists.2 (keys_apart es m moved);
      },
    )
