-- What a map answers that is joined of two.
use Rattle.std.proofs.Common.{◌≡◌, ℕ, zero, suc, ◌+◌, ◌<◌, Bool, true, false, cond, not, List, [], ◌∷◌, length, take, get_or, refl, ap, sym, subst, ◌∙◌, arith}
use Rattle.std.specs.Prelude.{T, Option, Some, None, if◌then◌else◌, ◌||◌, ◌&&◌, ◌==◌, nat_eq}
use mathlib.Core.Bool.{beq}
use Rattle.std.specs.List.{list_any, AllByRecursion as ByRecursion}
use Rattle.std.specs.List.Sorted.{IsPermutation}
use Rattle.std.specs.Cmp.Lexicographic.{pointwise}
use Rattle.std.specs.Ordering.{eq_by_cmp, is_eq}
use Rattle.std.specs.Cmp.{eq_by_cmp_equiv}
use Rattle.std.specs.FinMap.Entries as entries
use Rattle.std.proofs.lemmas.List.Folds.{list_any_more}
use Rattle.std.proofs.lemmas.List.Sorted.{IsPermutation-sym, Contains-permutation}
use Rattle.cl_maps.specs.Maps.{Map, key_cmp, empty, get, put, with_value}
use Rattle.cl_maps.proofs.MapLaws.{keys_total, same_keys, self_equal, same_map, tied_get, get-put, get-with_value}
use Rattle.cl_tokens.specs.Table.{is_key}
use Rattle.cl_tables.specs.Spelled.{Each}
use Rattle.cl_tables.specs.Spots.{begins, where_keys, put_all, joined, with_rows}
use Rattle.cl_tables.proofs.RowLists.{stands, rows_found}

or_else : {A : Type 0} → Option A → Option A → Option A
or_else None o = o
or_else (Some a) o = Some a

get-put_all : {A : Type 0} (es : List (List ℕ × A)) (m : Map A) (k : List ℕ) → get k (put_all es m) ≡ or_else (entries.find key_cmp k es) (get k m)
unfolding or_else
get-put_all [] m k = refl
get-put_all (e ∷ es) m k =
    get-put (put_all es m) e.0 e.1 k ∙ ap (cond (eq_by_cmp key_cmp k e.0) (Some e.1)) (get-put_all es m k) ∙ by (eq_by_cmp key_cmp k e.0)
  where
    by : (b : Bool) → cond b (Some e.1) (or_else (entries.find key_cmp k es) (get k m)) ≡ or_else (cond b (Some e.1) (entries.find key_cmp k es)) (get k m)
    by true = refl
    by false = refl

get-where_keys : {A : Type 0} (test : List ℕ → Bool) (m : Map A) (k : List ℕ) → get k (where_keys test m) ≡ cond (test k) (get k m) None
get-where_keys test m k = entries.find-where_key key_cmp test k (λ x e. ap test (sym (same_keys k x (ap is_eq e)))) m.list

pub get-joined : {A : Type 0} (test : List ℕ → Bool) (from m : Map A) (k : List ℕ) → get k (joined test from m) ≡ (if test k then get k from else get k m)
unfolding or_else
get-joined {A} test from m k =
    get-put_all (where_keys test from).list (where_keys (λ key. not (test key)) m) k
    ∙ (λ i. or_else (get-where_keys test from k i) (get-where_keys (λ key. not (test key)) m k i))
    ∙ by (test k) (get k from) (get k m)
  where
    by : (b : Bool) (x y : Option A) → or_else (cond b x None) (cond (not b) y None) ≡ (if b then x else y)
    by true None y = refl
    by true (Some a) y = refl
    by false x y = refl

-- ------------------------------------------------------------ joined at one key, and at more

module _ {A : Type 0} where
  -- whatever answers so is the joined map
  pub is_joined : (test : List ℕ → Bool) (from m n : Map A) → ((q : List ℕ) → get q n ≡ (if test q then get q from else get q m)) → n ≡ joined test from m
  is_joined test from m n answers = same_map n (joined test from m) (λ q. answers q ∙ sym (get-joined test from m q))

  pub joined_nowhere : (test : List ℕ → Bool) (from m : Map A) → ((q : List ℕ) → test q ≡ false) → m ≡ joined test from m
  joined_nowhere test from m never = is_joined test from m m (λ q. ap (λ b. if b then get q from else get q m) (sym (never q)))

  key_step : (b : Bool) (x y z : Option A) → (b ≡ true → x ≡ y) → cond b x z ≡ (if b then y else z)
  key_step true x y z same = same refl
  key_step false x y z same = refl

  pub joined_at_key : (k : List ℕ) (from m : Map A) → with_value k (get k from) m ≡ joined (is_key k) from m
  joined_at_key k from m = is_joined (is_key k) from m _ (λ q.
      get-with_value m k (get k from) q
      ∙ key_step (is_key q k) (get k from) (get q from) (get q m) (λ e. sym (tied_get from k q e))
      ∙ ap (λ b. if b then get q from else get q m) ((eq_by_cmp_equiv keys_total).symm q k))

  more_step : (a b : Bool) (x y : Option A) → (if b then x else (if a then x else y)) ≡ (if a || b then x else y)
  more_step true true x y = refl
  more_step true false x y = refl
  more_step false true x y = refl
  more_step false false x y = refl

  -- at what the first so many of a list name, and then at what the next one names
  pub joined_more : {X : Type 0} (test : List ℕ → X → Bool) (xs : List X) (i : ℕ) (x : X) (from m n o : Map A) → i < length xs → x ≡ get_or xs i x
      → n ≡ joined (λ q. list_any (test q) (take i xs)) from m → o ≡ joined (λ q. test q x) from n → o ≡ joined (λ q. list_any (test q) (take (i + 1) xs)) from m
  joined_more test xs i x from m n o low at before after = is_joined _ from m o (λ q.
      ap (get q) after ∙ get-joined (λ q. test q x) from n q
      ∙ ap (λ z. if test q x then get q from else z) (ap (get q) before ∙ get-joined (λ q. list_any (test q) (take i xs)) from m q)
      ∙ more_step (list_any (test q) (take i xs)) (test q x) (get q from) (get q m)
      ∙ ap (λ b. if b then get q from else get q m) (ap (λ y. list_any (test q) (take i xs) || test q y) at ∙ sym (list_any_more (test q) xs i x low)))

  -- what holds of both maps holds of the joined one
  either : (P : List ℕ → A → Type 0) (q : List ℕ) (a : A) (b : Bool) (x y : Option A) → (x ≡ Some a → P q a) → (y ≡ Some a → P q a) → (if b then x else y) ≡ Some a → P q a
  either P q a true x y p r is = p is
  either P q a false x y p r is = r is

  pub each_joined : (P : List ℕ → A → Type 0) (test : List ℕ → Bool) (from m : Map A) → Each P from → Each P m → Each P (joined test from m)
  each_joined P test from m p r q a is = either P q a (test q) (get q from) (get q m) (p q a) (r q a) (sym (get-joined test from m q) ∙ is)

-- ------------------------------------------------------------ rows that are put into a map

module _ {A : Type 0} (test : List ℕ → Bool) (source : Map A) where
  abbrev put_if : List ℕ × A → Map A → Map A
  put_if e m = if test e.0 then put e.0 e.1 m else m

  after_put : (q : List ℕ) (e : List ℕ × A) (m : Map A) (b : Bool) → test e.0 ≡ b → (test q ≡ false) → get q (if b then put e.0 e.1 m else m) ≡ get q m
  after_put q e m false is other = refl
  after_put q e m true is other = get-put m e.0 e.1 q ∙ by (is_key q e.0) refl
    where
      by : (b : Bool) → is_key q e.0 ≡ b → cond b (Some e.1) (get q m) ≡ get q m
      by true same = absurd (subst T (sym is ∙ ap test (sym (same_keys q e.0 same)) ∙ other) tt)
      by false apart = refl

  -- at other keys nothing changes
  others_stay : (q : List ℕ) (es : List (List ℕ × A)) (m : Map A) → test q ≡ false → get q (with_rows test es m) ≡ get q m
  others_stay q [] m other = refl
  others_stay q (e ∷ es) m other = others_stay q es (put_if e m) other ∙ after_put q e m (test e.0) refl other

  right_put : (q : List ℕ) (e : List ℕ × A) (m : Map A) (b : Bool) → get e.0 source ≡ Some e.1 → get q m ≡ get q source → get q (if b then put e.0 e.1 m else m) ≡ get q source
  right_put q e m false found right = right
  right_put q e m true found right = get-put m e.0 e.1 q ∙ by (is_key q e.0) refl
    where
      by : (b : Bool) → is_key q e.0 ≡ b → cond b (Some e.1) (get q m) ≡ get q source
      by true same = sym found ∙ ap (λ k. get k source) (sym (same_keys q e.0 same))
      by false apart = right

  -- a right value stays right
  right_stays : (q : List ℕ) (es : List (List ℕ × A)) (m : Map A) → ByRecursion (λ e. get e.0 source ≡ Some e.1) es → get q m ≡ get q source → get q (with_rows test es m) ≡ get q source
  right_stays q [] m found right = right
  right_stays q (e ∷ es) m found right = right_stays q es (put_if e m) found.1 (right_put q e m (test e.0) found.0 right)

  now_right : (q : List ℕ) (e : List ℕ × A) (m : Map A) (b : Bool) → test e.0 ≡ b → e.0 ≡ q → test q ≡ true → get e.0 source ≡ Some e.1 → get q (if b then put e.0 e.1 m else m) ≡ get q source
  now_right q e m true is same wanted found = get-put m e.0 e.1 q ∙ ap (λ b. cond b (Some e.1) (get q m)) (ap (is_key q) same ∙ self_equal q) ∙ sym found ∙ ap (λ k. get k source) same
  now_right q e m false is same wanted found = absurd (subst T (sym (ap test same ∙ wanted) ∙ is) tt)

  -- a wanted key that has a row gets its value
  row_put : (q : List ℕ) (a : A) (es : List (List ℕ × A)) (m : Map A) (k : ℕ) → k < length es → get_or es k (q, a) ≡ (q, a) → test q ≡ true → ByRecursion (λ e. get e.0 source ≡ Some e.1) es → get q (with_rows test es m) ≡ get q source
  row_put q a [] m k low at wanted found = absurd (omega (arith, low))
  row_put q a (e ∷ es) m zero low at wanted found = right_stays q es (put_if e m) found.1 (now_right q e m (test e.0) refl (ap (λ (p : List ℕ × A). p.0) at) wanted found.0)
  row_put q a (e ∷ es) m (suc k) low at wanted found = row_put q a es (put_if e m) k (omega (arith, low)) at wanted found.1

  wanted_got : (q : List ℕ) (es : List (List ℕ × A)) (m : Map A) → IsPermutation es source.list → test q ≡ true → get q m ≡ None → (o : Option A) → get q source ≡ o → get q (with_rows test es m) ≡ get q source
  wanted_got q es m moved wanted none None is = right_stays q es m (rows_found es source moved) (none ∙ sym is)
  wanted_got q es m moved wanted none (Some a) is =
      let there = Contains-permutation source.list es (q, a) (IsPermutation-sym es source.list moved) (stands q a source.list is) in
      row_put q a es m there.0 there.1 there.2 wanted (rows_found es source moved)

  -- the rows of a map give what it has at the wanted keys, where nothing stood there before
  pub rows_put : (es : List (List ℕ × A)) (m : Map A) → IsPermutation es source.list → ((q : List ℕ) → test q ≡ true → get q m ≡ None) → (q : List ℕ) → get q (with_rows test es m) ≡ (if test q then get q source else get q m)
  rows_put es m moved none q = by (test q) refl
    where
      by : (b : Bool) → test q ≡ b → get q (with_rows test es m) ≡ (if b then get q source else get q m)
      by true wanted = wanted_got q es m moved wanted (none q wanted) (get q source) refl
      by false other = others_stay q es m other

-- the rows of two maps, of each those at its keys
module _ {A : Type 0} where
  none_yet : (b : Bool) (x : Option A) → b ≡ true → (if not b then x else None) ≡ None
  none_yet true x is = refl
  none_yet false x is = absurd (subst T (sym is) tt)

  both_ways : (b : Bool) (x y : Option A) → (if b then x else (if not b then y else None)) ≡ (if b then x else y)
  both_ways true x y = refl
  both_ways false x y = refl

  pub rows_joined : (test : List ℕ → Bool) (from m first both : Map A) (es fs : List (List ℕ × A)) → IsPermutation es m.list → IsPermutation fs from.list
      → first ≡ with_rows (λ q. not (test q)) es empty → both ≡ with_rows test fs first → both ≡ joined test from m
  rows_joined test from m first both es fs moved moved_from one two =
      let half : (q : List ℕ) → get q first ≡ (if not (test q) then get q m else None) = λ q. ap (get q) one ∙ rows_put (λ q. not (test q)) m es empty moved (λ q w. refl) q in
      is_joined test from m both (λ q.
      ap (get q) two
      ∙ rows_put test from fs first moved_from (λ q w. half q ∙ none_yet (test q) (get q m) w) q
      ∙ ap (λ z. if test q then get q from else z) (half q)
      ∙ both_ways (test q) (get q from) (get q m))

-- ------------------------------------------------------------ tests that answer alike

pub same_tests : {A : Type 0} (s t : List ℕ → Bool) (from m n : Map A) → ((q : List ℕ) → s q ≡ t q) → n ≡ joined s from m → n ≡ joined t from m
same_tests s t from m n same is = is_joined t from m n (λ q. ap (get q) is ∙ get-joined s from m q ∙ ap (λ b. if b then get q from else get q m) (same q))

-- the code's test of how a key begins
pub begins_by : (front key : List ℕ) → pointwise nat_eq front (take (length front) key) ≡ begins front key
begins_by [] key = refl
begins_by (b ∷ front) [] = refl
begins_by (b ∷ front) (c ∷ key) = ap (λ z. b == c && z) (begins_by front key)

-- the code's test of what is wanted
pub wanted_is : (b wanted : Bool) → beq b wanted ≡ true → cond wanted b (not b) ≡ true
wanted_is true true is = refl
wanted_is true false is = is
wanted_is false true is = is
wanted_is false false is = refl

pub chosen : {A : Type 0} (b : Bool) (x y : A) → b ≡ true → x ≡ (if b then x else y)
chosen b x y is = sym (ap (λ z. if z then x else y) is)

pub wanted_so : (wanted b there : Bool) → b ≡ there → beq b wanted ≡ true → cond wanted there (not there) ≡ true
wanted_so wanted b there is h = ap (λ z. cond wanted z (not z)) (sym is) ∙ wanted_is b wanted h
