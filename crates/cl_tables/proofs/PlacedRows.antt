-- The rows of tokens, one token before the other.
use Rattle.std.proofs.Common.{◌≡◌, ℕ, zero, suc, ◌-◌, ◌+◌, ◌<◌, ◌≤◌, List, [], ◌∷◌, drop, length, get_or, refl, ap, sym, subst, ◌∙◌, arith}
use Rattle.std.specs.Prelude.{T, Bool, true, false, cond, ◌⊎◌, Some, slice_get}
use Rattle.std.specs.List.{IsDistinct, AllByRecursion as ByRecursion}
use Rattle.std.specs.Map.{keys_of}
use Rattle.std.proofs.lemmas.List.{drop_more}
use Rattle.std.proofs.lemmas.Option.{none-some}
use mathlib.Core.Logic.{inl, inr}
use Rattle.cl_maps.specs.Maps.{Map, get}
use Rattle.cl_maps.proofs.MapLaws.{get-put, same_keys, self_equal}
use Rattle.cl_tokens.specs.Table.{is_key}
use Rattle.cl_tables.specs.declared.place.Place.{Place}
use Rattle.cl_tables.specs.declared.row.StateRow.{StateRow}
use Rattle.cl_tables.specs.contracts.place.PlacePartialEq.TheImpl.{eq-value}
use Rattle.cl_tables.specs.Variables.{IsPlace, key_of}
use Rattle.cl_tables.specs.Spelled.{Each}
use Rattle.cl_tables.specs.Numbered.{by_place, IsNowhere, ArePlaced}
use Rattle.cl_tables.specs.RowParts.{Adds, OfPlaced}
use Rattle.cl_tables.proofs.PlaceKeys.{keys_apart}
use Rattle.cl_tables.proofs.SamePlaces.{equal_is}
use Rattle.cl_tables.proofs.Numbered.{parts_of, parts_nowhere, parts_placed}
use Rattle.cl_tables.proofs.RowLists.{adds_so, adds_more}
use Rattle.cl_tables.proofs.MadeRows.{place_of_row}

-- of each token of a list
abbrev pub OfTokens : {A : Type 0} → (Place → A → StateRow → Type 0) → List (Place × A) → StateRow → Type 0
OfTokens P [] r = ⊥
OfTokens P (e ∷ es) r = P e.0 e.1 r ⊎ OfTokens P es r

-- no place stands twice
abbrev pub PlacesApart : {A : Type 0} → List (Place × A) → Type 0
PlacesApart [] = Unit {0}
PlacesApart (e ∷ es) = IsNowhere (key_of e.0) es × PlacesApart es

other_way : (k q : List ℕ) (b : Bool) → is_key q k ≡ b → is_key k q ≡ false → b ≡ false
other_way k q true same other = absurd (subst T (sym (self_equal k) ∙ ap (is_key k) (sym (same_keys q k same)) ∙ other) tt)
other_way k q false same other = refl

module _ {A : Type 0} where
  nowhere : (at : Place) (es : List (Place × A)) → IsPlace at → ArePlaced es → ByRecursion (λ y. eq-value.it at y ≡ false) (keys_of es) → IsNowhere (key_of at) es
  nowhere at [] real placed others = tt
  nowhere at (e ∷ es) real placed others = (sym (equal_is at e.0 real placed.0) ∙ others.0, nowhere at es real placed.1 others.1)

  places_apart : (es : List (Place × A)) → ArePlaced es → IsDistinct eq-value.it (keys_of es) → PlacesApart es
  unfolding IsDistinct
  places_apart [] placed distinct = tt
  places_apart (e ∷ es) placed distinct = (nowhere e.0 es placed.0 placed.1 distinct.0, places_apart es placed.1 distinct.1)

  apart_drop : (es : List (Place × A)) (k : ℕ) → PlacesApart es → PlacesApart (drop k es)
  apart_drop [] zero apart = tt
  apart_drop [] (suc k) apart = tt
  apart_drop (e ∷ es) zero apart = apart
  apart_drop (e ∷ es) (suc k) apart = apart_drop es k apart.1

  found_behind : (e : Place × A) (es xs : List (Place × A)) → IsNowhere (key_of e.0) xs → ByRecursion (λ x. get (key_of x.0) (by_place es) ≡ Some x.1) xs → ByRecursion (λ x. get (key_of x.0) (by_place (e ∷ es)) ≡ Some x.1) xs
  unfolding by_place
  found_behind e es [] none found = tt
  found_behind e es (x ∷ xs) none found = (
    get-put (by_place es) (key_of e.0) e.1 (key_of x.0) ∙ ap (λ b. cond b (Some e.1) (get (key_of x.0) (by_place es))) (other_way (key_of e.0) (key_of x.0) (is_key (key_of x.0) (key_of e.0)) refl none.0) ∙ found.0,
    found_behind e es xs none.1 found.1,
  )

  first : (e : Place × A) (es : List (Place × A)) → get (key_of e.0) (by_place (e ∷ es)) ≡ Some e.1
  unfolding by_place
  first e es = get-put (by_place es) (key_of e.0) e.1 (key_of e.0) ∙ ap (λ b. cond b (Some e.1) (get (key_of e.0) (by_place es))) (self_equal (key_of e.0))

  -- each token is found at its place
  tokens_found : (es : List (Place × A)) → PlacesApart es → ByRecursion (λ e. get (key_of e.0) (by_place es) ≡ Some e.1) es
  tokens_found [] apart = tt
  tokens_found (e ∷ es) apart = (first e es, found_behind e es es apart.0 (tokens_found es apart.1))

  -- ------------------------------------------------------------ the rows of a list of tokens are those of its map

  module _ (P : Place → A → StateRow → Type 0) where
    of_list : (m : Map A) (es : List (Place × A)) (r : StateRow) → ByRecursion (λ e. get (key_of e.0) m ≡ Some e.1) es → ArePlaced es → OfTokens P es r → OfPlaced P m r
    of_list m [] r found placed is = absurd is
    of_list m (e ∷ es) r found placed (inl p) = (e.0, e.1, placed.0, found.0, p)
    of_list m (e ∷ es) r found placed (inr rest) = of_list m es r found.1 placed.1 rest

    token_step : (at : Place) (a : A) (e : Place × A) (es : List (Place × A)) (r : StateRow) (b : Bool) → is_key (key_of at) (key_of e.0) ≡ b → IsPlace at → IsPlace e.0 → cond b (Some e.1) (get (key_of at) (by_place es)) ≡ Some a → P at a r
        → (get (key_of at) (by_place es) ≡ Some a → OfTokens P es r) → OfTokens P (e ∷ es) r
    token_step at a e es r true same real other_real is p rest =
        let value : a ≡ e.1 = cc in
        let place : at ≡ e.0 = keys_apart at e.0 real other_real (same_keys (key_of at) (key_of e.0) same) in
        inl (subst (λ x. P e.0 x r) value (subst (λ q. P q a r) place p))
    token_step at a e es r false same real other_real is p rest = inr (rest is)

    in_list : (es : List (Place × A)) (at : Place) (a : A) (r : StateRow) → ArePlaced es → IsPlace at → get (key_of at) (by_place es) ≡ Some a → P at a r → OfTokens P es r
    unfolding by_place
    in_list [] at a r placed real is p = absurd (none-some a is)
    in_list (e ∷ es) at a r placed real is p =
        token_step at a e es r (is_key (key_of at) (key_of e.0)) refl real placed.0 (sym (get-put (by_place es) (key_of e.0) e.1 (key_of at)) ∙ is) p (λ behind. in_list es at a r placed.1 real behind p)

    all_tokens : (es : List (Place × A)) (a b : List StateRow) → ArePlaced es → PlacesApart es → Adds (OfTokens P es) a b → Adds (OfPlaced P (by_place es)) a b
    all_tokens es a b placed apart adds =
        adds_so (OfTokens P es) (OfPlaced P (by_place es)) a b adds (λ r is. of_list (by_place es) es r (tokens_found es apart) placed is)
        (λ r is. in_list es is.0 is.1 r placed is.2 is.3 is.4)

    not_elsewhere : (es : List (Place × A)) (key : List ℕ) (r : StateRow) → ((at : Place) (a : A) → P at a r → place_of_row r ≡ key_of at) → IsNowhere key es → place_of_row r ≡ key → OfTokens P es r → ⊥
    not_elsewhere [] key r where_is none mine is = is
    not_elsewhere (e ∷ es) key r where_is none mine (inl p) =
        let tied : key ≡ key_of e.0 = sym mine ∙ where_is e.0 e.1 p in
        subst T (sym (self_equal key) ∙ ap (is_key key) tied ∙ none.0) tt
    not_elsewhere (e ∷ es) key r where_is none mine (inr rest) = not_elsewhere es key r where_is none.1 mine rest

turned : {A B : Type 0} → A ⊎ B → B ⊎ A
turned (inl a) = inr a
turned (inr b) = inl b

-- ------------------------------------------------------------ a loop over tokens, of which a part is told

module _ {A B : Type 0} (part : A → B) (P : Place → B → StateRow → Type 0) (where_is : (r : StateRow) (at : Place) (b : B) → P at b r → place_of_row r ≡ key_of at) where
  apart_parts : (es : List (Place × A)) → PlacesApart es → PlacesApart (parts_of part es)
  apart_parts [] apart = tt
  apart_parts (e ∷ es) apart = (parts_nowhere part (key_of e.0) es apart.0, apart_parts es apart.1)

  abbrev pub Told : List (Place × A) → ℕ → List StateRow → List StateRow → Type 0
  Told es i a b = Adds (OfTokens P (parts_of part (drop i es))) a b

  told_before : (es rest : List (Place × A)) (e : Place × A) (a b c : List StateRow) → es ≡ e ∷ rest → PlacesApart es → Adds (OfTokens P (parts_of part rest)) a b → Adds (P e.0 (part e.1)) b c → Adds (OfTokens P (parts_of part es)) a c
  told_before es rest e a b c split apart told more =
      let none : IsNowhere (key_of e.0) (parts_of part rest) = parts_nowhere part (key_of e.0) rest (subst (λ (xs : List (Place × A)). PlacesApart xs) split apart).0 in
      subst (λ (xs : List (Place × A)). Adds (OfTokens P (parts_of part xs)) a c) (sym split)
      (adds_so (λ r. OfTokens P (parts_of part rest) r ⊎ P e.0 (part e.1) r) (OfTokens P ((e.0, part e.1) ∷ parts_of part rest)) a c
      (adds_more (OfTokens P (parts_of part rest)) (P e.0 (part e.1)) a b c told more (λ r is p. not_elsewhere P (parts_of part rest) (key_of e.0) r (where_is r) none (where_is r e.0 (part e.1) p) is))
      (λ r is. turned is) (λ r is. turned is))

  -- the rows of one token more
  pub told_more : (es : List (Place × A)) (i : ℕ) (e : Place × A) (a b c : List StateRow) → ArePlaced (parts_of part es) → IsDistinct eq-value.it (keys_of es) → 0 < i → i ≤ length es → e ≡ get_or es (i - 1) e → Told es i a b → Adds (P e.0 (part e.1)) b c → Told es (i - 1) a c
  told_more es i e a b c placed distinct some fits at told more =
      let next : i - 1 + 1 ≡ i = omega (arith, some) in
      let front = sym at in
      let split : drop (i - 1) es ≡ e ∷ drop i es = drop_more es (i - 1) e (omega (arith, some, fits)) ∙ (λ j. front j ∷ drop (next j) es) in
      told_before (drop (i - 1) es) (drop i es) e a b c split (apart_drop es (i - 1) (places_apart es (parts_placed part es placed) distinct)) told more

  pub told_all : (es : List (Place × A)) (i : ℕ) (a b : List StateRow) → ArePlaced (parts_of part es) → IsDistinct eq-value.it (keys_of es) → i ≤ 0 → Told es i a b → Adds (OfPlaced P (by_place (parts_of part es))) a b
  told_all es i a b placed distinct none told =
      let start : i ≡ 0 = omega (arith, none) in
      all_tokens P (parts_of part es) a b placed (apart_parts es (places_apart es (parts_placed part es placed) distinct)) (subst (λ k. Told es k a b) start told)

  part_at : (es : List (Place × A)) (k : ℕ) (e : Place × A) (Q : Place × B → Type 0) → k < length es → e ≡ get_or es k e → ByRecursion Q (parts_of part es) → Q (e.0, part e.1)
  part_at [] k e Q low at all = absurd (omega (arith, low))
  part_at (x ∷ es) zero e Q low at all = subst (λ (y : Place × A). Q (y.0, part y.1)) (sym at) all.0
  part_at (x ∷ es) (suc k) e Q low at all = part_at es k e Q (omega (arith, low)) at all.1

  -- what each token has, the one of a number has
  pub token_has : (Q : B → Type 0) (es : List (Place × A)) (k : ℕ) (e : Place × A) → ArePlaced (parts_of part es) → IsDistinct eq-value.it (keys_of es) → k < length es → e ≡ get_or es k e → Each (λ key b. Q b) (by_place (parts_of part es)) → Q (part e.1)
  token_has Q es k e placed distinct low at each =
      each (key_of e.0) (part e.1) (part_at es k e (λ x. get (key_of x.0) (by_place (parts_of part es)) ≡ Some x.1) low at (tokens_found (parts_of part es) (apart_parts es (places_apart es (parts_placed part es placed) distinct))))

-- ------------------------------------------------------------ a token by its number

pub entry_low : {A : Type 0} (es : List (Place × A)) (k : ℕ) (e : Place × A) → Some e ≡ slice_get es k → k < length es
entry_low [] k e is = absurd (none-some e (sym is))
entry_low (x ∷ es) zero e is = omega arith
entry_low (x ∷ es) (suc k) e is = let low = entry_low es k e is in omega (arith, low)

pub entry_at : {A : Type 0} (es : List (Place × A)) (k : ℕ) (e : Place × A) → Some e ≡ slice_get es k → e ≡ get_or es k e
entry_at [] k e is = refl
entry_at (x ∷ es) zero e is = cc
entry_at (x ∷ es) (suc k) e is = entry_at es k e is
