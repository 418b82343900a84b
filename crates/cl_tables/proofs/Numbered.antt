-- Tokens by number: what look-ups by place find, and what a change of one is to the map of them.
use Rattle.std.proofs.Common.{◌≡◌, refl, sym, ap, subst, ◌∙◌, ℕ, zero, suc, ◌<◌, ◌≤◌, ◌+◌, List, [], ◌∷◌, ◌++◌, length, arith, take, Bor}
use Rattle.std.specs.Prelude.{T, Bool, true, false, not, cond, Option, None, Some, is_some, IsSome, map, nat_lt, option_copied, slice_get}
use Rattle.std.specs.List.{position, position_or_len}
use Rattle.std.specs.Option.{option_map}
use Rattle.std.specs.Map.{lookup, keys_of, values_of}
use Rattle.std.proofs.lemmas.Bool.Decides.{nat_tests}
use Rattle.std.proofs.lemmas.Option.{none-some}
use Rattle.std.proofs.lemmas.List.{length-append, map-append}
use Rattle.std.proofs.Math.Seq.{take-append_seam}
use Rattle.std.specs.FinMap.Entries.{find, find-append}
use Rattle.indexmap.specs.Layout.{set_value_at}
use Rattle.indexmap.specs.IndexMap.{insert_entry}
use Rattle.cl_maps.specs.Maps.{key_cmp, empty, get, put}
use Rattle.cl_maps.proofs.MapLaws.{keys_total, same_map, get-put, same_keys}
use Rattle.cl_tokens.specs.Table.{is_key}
use Rattle.cl_tables.specs.declared.place.Place.{Place}
use Rattle.cl_tables.specs.contracts.place.PlacePartialEq.TheImpl.{eq-value}
use Rattle.cl_tables.specs.Variables.{IsPlace, key_of}
use Rattle.cl_tables.specs.Numbered.{by_place, value_at, IsNumber, IsNowhere, IsNumbered, ArePlaced, but_last}
use Rattle.cl_tables.specs.Notes.{room_at, Keeps}
use Rattle.cl_tables.proofs.SamePlaces.{equal_is}

-- ------------------------------------------------------------ look-ups by the code's equality

module _ {A : Type 0} where
  number_step : (key : List ℕ) (e : Place × A) (es : List (Place × A)) (p : ℕ) (b : Bool) → is_key key (key_of e.0) ≡ b → cond (not b) (1 + p) 0 < length (keys_of (e ∷ es)) → (p < length (keys_of es) → IsNumber key es p) → IsNumber key (e ∷ es) (cond (not b) (1 + p) 0)
  number_step key e es p true same less rest = same
  number_step key e es p false other less rest =
      let next : suc p ≡ 1 + p = omega arith in subst (IsNumber key (e ∷ es)) next (other, rest (omega (arith, less)))

  pub number_at : (at : Place) (es : List (Place × A)) → IsPlace at → ArePlaced es → position_or_len (eq-value.it at) (keys_of es) < length (keys_of es)
      → IsNumber (key_of at) es (position_or_len (eq-value.it at) (keys_of es))
  number_at at [] real all low = absurd (omega (arith, low))
  number_at at (e ∷ es) real all low =
      number_step (key_of at) e es (position_or_len (eq-value.it at) (keys_of es)) (eq-value.it at e.0) (sym (equal_is at e.0 real all.0)) low (λ less. number_at at es real all.1 less)

  nowhere_step : (key : List ℕ) (e : Place × A) (es : List (Place × A)) (p : ℕ) (b : Bool) → is_key key (key_of e.0) ≡ b → length (keys_of (e ∷ es)) ≤ cond (not b) (1 + p) 0 → (length (keys_of es) ≤ p → IsNowhere key es) → IsNowhere key (e ∷ es)
  nowhere_step key e es p true same less rest = absurd (omega (arith, less))
  nowhere_step key e es p false other less rest = (other, rest (omega (arith, less)))

  pub nowhere_at : (at : Place) (es : List (Place × A)) → IsPlace at → ArePlaced es → length (keys_of es) ≤ position_or_len (eq-value.it at) (keys_of es) → IsNowhere (key_of at) es
  nowhere_at at [] real all passed = tt
  nowhere_at at (e ∷ es) real all passed =
      nowhere_step (key_of at) e es (position_or_len (eq-value.it at) (keys_of es)) (eq-value.it at e.0) (sym (equal_is at e.0 real all.0)) passed (λ less. nowhere_at at es real all.1 less)

  numbered_step : (at : Place) (es : List (Place × A)) → IsPlace at → ArePlaced es → (b : Bool) → nat_lt (position_or_len (eq-value.it at) (keys_of es)) (length (keys_of es)) ≡ b
      → IsNumbered (key_of at) es (cond b (Some (position_or_len (eq-value.it at) (keys_of es))) None)
  numbered_step at es real all true is = number_at at es real all (grind (arith, nat_tests, is))
  numbered_step at es real all false is = nowhere_at at es real all (grind (arith, nat_tests, is))

  -- the number that a look-up gives
  pub numbered : (at : Place) (es : List (Place × A)) (r : Option ℕ) → IsPlace at → ArePlaced es → r ≡ position (eq-value.it at) (keys_of es) → IsNumbered (key_of at) es r
  numbered at es r real all is = subst (IsNumbered (key_of at) es) (sym is) (numbered_step at es real all _ refl)

  -- a token that is put at a new place stands behind the others
  pub inserted : (at : Place) (a : A) (es : List (Place × A)) → IsPlace at → ArePlaced es → IsNowhere (key_of at) es → insert_entry eq-value.it es at a ≡ es ++ (at, a) ∷ []
  inserted at a [] real all n = refl
  inserted at a (e ∷ es) real all n =
      ap (λ b. cond b ((e.0, a) ∷ es) (e ∷ insert_entry eq-value.it es at a)) (equal_is at e.0 real all.0 ∙ n.0) ∙ ap (λ xs. e ∷ xs) (inserted at a es real all.1 n.1)

  -- ------------------------------------------------------------ the map by places

  abbrev pub keyed : List (Place × A) → List (List ℕ × A)
  keyed es = map (λ e. (key_of e.0, e.1)) es

  pub get-by_place : (es : List (Place × A)) (q : List ℕ) → get q (by_place es) ≡ find key_cmp q (keyed es)
  unfolding by_place
  get-by_place [] q = refl
  get-by_place (e ∷ es) q = get-put (by_place es) (key_of e.0) e.1 q ∙ ap (cond (is_key q (key_of e.0)) (Some e.1)) (get-by_place es q)

  found_keyed : (at : Place) (es : List (Place × A)) → IsPlace at → ArePlaced es → lookup (eq-value.it at) es ≡ find key_cmp (key_of at) (keyed es)
  found_keyed at [] real all = refl
  found_keyed at (e ∷ es) real all = λ i. cond (equal_is at e.0 real all.0 i) (Some e.1) (found_keyed at es real all.1 i)

  -- a look-up by place is one by its key
  pub looked_up : (at : Place) (es : List (Place × A)) → IsPlace at → ArePlaced es → lookup (eq-value.it at) es ≡ get (key_of at) (by_place es)
  looked_up at es real all = found_keyed at es real all ∙ sym (get-by_place es (key_of at))

  pub number_found : (none : A) (key : List ℕ) (es : List (Place × A)) (i : ℕ) → IsNumber key es i → get key (by_place es) ≡ Some (value_at none es i)
  unfolding by_place
  number_found none key [] i n = absurd n
  number_found none key (e ∷ es) zero n = get-put (by_place es) (key_of e.0) e.1 key ∙ ap (λ b. cond b (Some e.1) (get key (by_place es))) n
  number_found none key (e ∷ es) (suc i) n =
      get-put (by_place es) (key_of e.0) e.1 key ∙ ap (λ b. cond b (Some e.1) (get key (by_place es))) n.0 ∙ number_found none key es i n.1

  pub nowhere_none : (key : List ℕ) (es : List (Place × A)) → IsNowhere key es → get key (by_place es) ≡ None
  unfolding by_place
  nowhere_none key [] n = refl
  nowhere_none key (e ∷ es) n = get-put (by_place es) (key_of e.0) e.1 key ∙ ap (λ b. cond b (Some e.1) (get key (by_place es))) n.0 ∙ nowhere_none key es n.1

  nothing_step : (key : List ℕ) (e : Place × A) (es : List (Place × A)) (b : Bool) → is_key key (key_of e.0) ≡ b → cond b (Some e.1) (get key (by_place es)) ≡ None → (get key (by_place es) ≡ None → IsNowhere key es) → IsNowhere key (e ∷ es)
  nothing_step key e es true same is rest = absurd (none-some e.1 (sym is))
  nothing_step key e es false other is rest = (other, rest is)

  pub none_nowhere : (key : List ℕ) (es : List (Place × A)) → get key (by_place es) ≡ None → IsNowhere key es
  unfolding by_place
  none_nowhere key [] none = tt
  none_nowhere key (e ∷ es) none =
      nothing_step key e es (is_key key (key_of e.0)) refl (sym (get-put (by_place es) (key_of e.0) e.1 key) ∙ none) (λ is. none_nowhere key es is)

  pub number_below : (key : List ℕ) (es : List (Place × A)) (i : ℕ) → IsNumber key es i → i < length es
  number_below key [] i n = absurd n
  number_below key (e ∷ es) zero n = omega arith
  number_below key (e ∷ es) (suc i) n = let low = number_below key es i n.1 in omega (arith, low)

  over : (b : Bool) (x y : A) (o : Option A) → cond b (Some y) o ≡ cond b (Some y) (cond b (Some x) o)
  over true x y o = refl
  over false x y o = refl

  pub first_changed : (key : List ℕ) (e : Place × A) (es : List (Place × A)) (a : A) (q : List ℕ) → key ≡ key_of e.0
      → cond (is_key q (key_of e.0)) (Some a) (find key_cmp q (keyed es)) ≡ cond (is_key q key) (Some a) (cond (is_key q (key_of e.0)) (Some e.1) (find key_cmp q (keyed es)))
  first_changed key e es a q same =
      over (is_key q (key_of e.0)) e.1 a (find key_cmp q (keyed es))
      ∙ ap (λ k. cond (is_key q k) (Some a) (cond (is_key q (key_of e.0)) (Some e.1) (find key_cmp q (keyed es)))) (sym same)

  pub later_changed : (key q k : List ℕ) (x a : A) (new old : Option A) → is_key key k ≡ false → (b : Bool) → is_key q k ≡ b → (c : Bool) → is_key q key ≡ c → new ≡ cond c (Some a) old → cond b (Some x) new ≡ cond c (Some a) (cond b (Some x) old)
  later_changed key q k x a new old apart true b true c rest = absurd (subst T (sym b ∙ ap (λ j. is_key j k) (same_keys q key c) ∙ apart) tt)
  later_changed key q k x a new old apart true b false c rest = refl
  later_changed key q k x a new old apart false b c same rest = rest

  each_changed : (key : List ℕ) (es : List (Place × A)) (i : ℕ) (a : A) → IsNumber key es i → (q : List ℕ) → find key_cmp q (keyed (set_value_at es i a)) ≡ cond (is_key q key) (Some a) (find key_cmp q (keyed es))
  each_changed key [] i a n q = absurd n
  each_changed key (e ∷ es) zero a n q = first_changed key e es a q (same_keys key (key_of e.0) n)
  each_changed key (e ∷ es) (suc i) a n q = later_changed key q (key_of e.0) e.1 a _ _ n.0 (is_key q (key_of e.0)) refl (is_key q key) refl (each_changed key es i a n.1 q)

  -- the token of one place alone is changed
  pub number_changed : (key : List ℕ) (es : List (Place × A)) (i : ℕ) (a : A) → IsNumber key es i → by_place (set_value_at es i a) ≡ put key a (by_place es)
  number_changed key es i a n = same_map _ _ (λ q.
      get-by_place (set_value_at es i a) q ∙ each_changed key es i a n q ∙ ap (cond (is_key q key) (Some a)) (sym (get-by_place es q)) ∙ sym (get-put (by_place es) key a q))

  -- a token more
  pub one_more : (es : List (Place × A)) (at : Place) (a : A) → get (key_of at) (by_place es) ≡ None → by_place (es ++ (at, a) ∷ []) ≡ put (key_of at) a (by_place es)
  one_more es at a none = same_map _ _ (λ q.
      get-by_place (es ++ (at, a) ∷ []) q ∙ ap (find key_cmp q) (map-append {B = List ℕ × A} (λ (e : Place × A). (key_of e.0, e.1)) es ((at, a) ∷ []))
      ∙ find-append key_cmp keys_total (keyed es) (key_of at) a q (sym (get-by_place es (key_of at)) ∙ none)
      ∙ ap (cond (is_key q (key_of at)) (Some a)) (sym (get-by_place es q)) ∙ sym (get-put (by_place es) (key_of at) a q))

  -- ------------------------------------------------------------ lists of tokens

  pub but_the_last : (xs : List A) (x : A) → but_last (xs ++ x ∷ []) ≡ xs
  but_the_last xs x = let longer = length-append xs (x ∷ []) in ap (λ n. take n (xs ++ x ∷ [])) (omega (arith, longer)) ∙ take-append_seam xs (x ∷ [])

  pub value_set : (none a : A) (es : List (Place × A)) (i : ℕ) → i < length es → value_at none (set_value_at es i a) i ≡ a
  value_set none a [] i low = absurd (omega (arith, low))
  value_set none a (e ∷ es) zero low = refl
  value_set none a (e ∷ es) (suc i) low = value_set none a es i (omega (arith, low))

  pub set_twice : (a b : A) (es : List (Place × A)) (i : ℕ) → set_value_at (set_value_at es i a) i b ≡ set_value_at es i b
  set_twice a b [] i = refl
  set_twice a b (e ∷ es) zero = refl
  set_twice a b (e ∷ es) (suc i) = ap (λ xs. e ∷ xs) (set_twice a b es i)

  pub set_same : (none : A) (es : List (Place × A)) (i : ℕ) → set_value_at es i (value_at none es i) ≡ es
  set_same none [] i = refl
  set_same none (e ∷ es) zero = refl
  set_same none (e ∷ es) (suc i) = ap (λ xs. e ∷ xs) (set_same none es i)

  pub placed_set : (a : A) (es : List (Place × A)) (i : ℕ) → ArePlaced es → ArePlaced (set_value_at es i a)
  placed_set a [] i all = tt
  placed_set a (e ∷ es) zero all = all
  placed_set a (e ∷ es) (suc i) all = (all.0, placed_set a es i all.1)

  pub placed_more : (es : List (Place × A)) (at : Place) (a : A) → ArePlaced es → IsPlace at → ArePlaced (es ++ (at, a) ∷ [])
  placed_more [] at a all real = (real, tt)
  placed_more (e ∷ es) at a all real = (all.0, placed_more es at a all.1 real)

  -- a changed token is as it was, once it is changed back
  pub changed_back : (none a : A) (f : A → A) (es new : List (Place × A)) (i : ℕ) → i < length es → new ≡ set_value_at es i a → f a ≡ value_at none es i → set_value_at new i (f (value_at none new i)) ≡ es
  changed_back none a f es new i low is back =
      ap (λ xs. set_value_at xs i (f (value_at none xs i))) is
      ∙ ap (λ x. set_value_at (set_value_at es i a) i (f x)) (value_set none a es i low)
      ∙ set_twice a (f a) es i ∙ ap (set_value_at es i) back ∙ set_same none es i

  has_step : (P : A → Type 0) (b : Bool) (x a : A) (o : Option A) → P x → (o ≡ Some a → P a) → cond b (Some x) o ≡ Some a → P a
  has_step P true x a o here rest is = subst P (cc) here
  has_step P false x a o here rest is = rest is

  pub value_got : (none x : A) (es : List (Place × A)) (i : ℕ) → Some x ≡ slice_get (values_of es) i → x ≡ value_at none es i
  value_got none x [] i is = absurd (none-some x (sym is))
  value_got none x (e ∷ es) zero is = cc
  value_got none x (e ∷ es) (suc i) is = value_got none x es i is

  -- what holds of a token before and after a change
  pub at_number : (P : A → A → Type 0) (none x y : A) (es : List (Place × A)) (i : ℕ) → i < length es → Some x ≡ slice_get (values_of es) i → P x y → P (value_at none es i) (value_at none (set_value_at es i y) i)
  at_number P none x y es i low got p = subst (λ b. P (value_at none es i) b) (sym (value_set none y es i low)) (subst (λ a. P a y) (value_got none x es i got) p)

  pub others_stay : (none y : A) (es : List (Place × A)) (i : ℕ) → i < length es → set_value_at es i y ≡ set_value_at es i (value_at none (set_value_at es i y) i)
  others_stay none y es i low = ap (set_value_at es i) (sym (value_set none y es i low))

-- ------------------------------------------------------------ a part of each token

pub by_place_none : {A : Type 0} → by_place {A = A} [] ≡ empty
unfolding by_place
by_place_none = refl

pub copied_part : {A B : Type 0} (part : A → B) (o : Option (Bor A)) → option_map (λ (l : Bor A). part l.now) o ≡ option_map part (option_copied o)
copied_part part None = refl
copied_part part (Some l) = refl

module _ {A B : Type 0} (part : A → B) where
  abbrev pub parts_of : List (Place × A) → List (Place × B)
  parts_of es = map (λ e. (e.0, part e.1)) es

  pub parts_set : (es : List (Place × A)) (i : ℕ) (a : A) → parts_of (set_value_at es i a) ≡ set_value_at (parts_of es) i (part a)
  parts_set [] i a = refl
  parts_set (e ∷ es) zero a = refl
  parts_set (e ∷ es) (suc i) a = ap (λ xs. (e.0, part e.1) ∷ xs) (parts_set es i a)

  pub parts_at : (none : A) (es : List (Place × A)) (i : ℕ) → value_at (part none) (parts_of es) i ≡ part (value_at none es i)
  parts_at none [] i = refl
  parts_at none (e ∷ es) zero = refl
  parts_at none (e ∷ es) (suc i) = parts_at none es i

  -- where a token changes in something else
  pub same_parts : (none x y : A) (es : List (Place × A)) (i : ℕ) → Some x ≡ slice_get (values_of es) i → part y ≡ part x → parts_of (set_value_at es i y) ≡ parts_of es
  same_parts none x y es i got same =
      parts_set es i y ∙ ap (set_value_at (parts_of es) i) (same ∙ ap part (value_got none x es i got) ∙ sym (parts_at none es i)) ∙ set_same (part none) (parts_of es) i

  pub parts_numbered : (key : List ℕ) (es : List (Place × A)) (i : ℕ) → IsNumber key es i → IsNumber key (parts_of es) i
  parts_numbered key [] i n = n
  parts_numbered key (e ∷ es) zero n = n
  parts_numbered key (e ∷ es) (suc i) n = (n.0, parts_numbered key es i n.1)

  pub parts_nowhere : (key : List ℕ) (es : List (Place × A)) → IsNowhere key es → IsNowhere key (parts_of es)
  parts_nowhere key [] n = n
  parts_nowhere key (e ∷ es) n = (n.0, parts_nowhere key es n.1)

  pub whole_nowhere : (key : List ℕ) (es : List (Place × A)) → IsNowhere key (parts_of es) → IsNowhere key es
  whole_nowhere key [] n = n
  whole_nowhere key (e ∷ es) n = (n.0, whole_nowhere key es n.1)

  pub parts_placed : (es : List (Place × A)) → ArePlaced (parts_of es) → ArePlaced es
  parts_placed [] all = tt
  parts_placed (e ∷ es) all = (all.0, parts_placed es all.1)

  chosen_part : (b : Bool) (a : A) (o : Option A) (p : Option B) → p ≡ option_map part o → cond b (Some (part a)) p ≡ option_map part (cond b (Some a) o)
  chosen_part true a o p is = refl
  chosen_part false a o p is = is

  each_part : (q : List ℕ) (es : List (Place × A)) → find key_cmp q (keyed (parts_of es)) ≡ option_map part (find key_cmp q (keyed es))
  each_part q [] = refl
  each_part q (e ∷ es) = chosen_part (is_key q (key_of e.0)) e.1 (find key_cmp q (keyed es)) (find key_cmp q (keyed (parts_of es))) (each_part q es)

  pub get-parts : (es : List (Place × A)) (q : List ℕ) → get q (by_place (parts_of es)) ≡ option_map part (get q (by_place es))
  get-parts es q = get-by_place (parts_of es) q ∙ each_part q es ∙ ap (option_map part) (sym (get-by_place es q))

  -- a token that is found has a number
  pub defined_somewhere : (key : List ℕ) (es : List (Place × A)) → IsNowhere key es → IsSome (get key (by_place (parts_of es))) → ⊥
  defined_somewhere key es nowhere there = subst T (sym there ∙ ap is_some (nowhere_none key (parts_of es) (parts_nowhere key es nowhere))) tt

-- ------------------------------------------------------------ the room of each token

module _ {A : Type 0} (room : A → List (List ℕ)) where
  abbrev pub rooms_of : List (Place × A) → List (List (List ℕ))
  rooms_of es = map (λ e. room e.1) es

  pub room_is : (none : A) → room none ≡ [] → (es : List (Place × A)) (i : ℕ) → room_at (rooms_of es) i ≡ room (value_at none es i)
  room_is none nothing [] i = sym nothing
  room_is none nothing (e ∷ es) zero = refl
  room_is none nothing (e ∷ es) (suc i) = room_is none nothing es i

  pub rooms_set : (none a : A) (es : List (Place × A)) (i : ℕ) → Keeps (room (value_at none es i)) (room a) → (j : ℕ) → Keeps (room_at (rooms_of es) j) (room_at (rooms_of (set_value_at es i a)) j)
  rooms_set none a [] i keeps j q h = h
  rooms_set none a (e ∷ es) zero keeps zero q h = keeps q h
  rooms_set none a (e ∷ es) zero keeps (suc j) q h = h
  rooms_set none a (e ∷ es) (suc i) keeps zero q h = h
  rooms_set none a (e ∷ es) (suc i) keeps (suc j) q h = rooms_set none a es i keeps j q h

  pub rooms_more : (es : List (Place × A)) (e : Place × A) (j : ℕ) → j < length es → room_at (rooms_of (es ++ e ∷ [])) j ≡ room_at (rooms_of es) j
  rooms_more [] e j low = absurd (omega (arith, low))
  rooms_more (x ∷ es) e zero low = refl
  rooms_more (x ∷ es) e (suc j) low = rooms_more es e j (omega (arith, low))
