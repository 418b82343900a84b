-- What has a property, as a list; and a map of such a list.
use Rattle.std.proofs.Common.{◌≡◌, ◌⊎◌, inl, inr, ℕ, List, [], ◌∷◌, ◌++◌, refl, sym, ap, subst, ◌∙◌}
use Rattle.std.specs.Prelude.{Bool, true, false, cond, Option, Some, None}
use Rattle.std.specs.Ordering.{is_eq, is_lt}
use Rattle.std.specs.declared.cmp.Ordering.{Ordering}
use Rattle.std.specs.declared.cmp.Ordering.TheVariants.{Less, Equal, Greater}
use Rattle.std.specs.FinMap.{find}
use Rattle.std.proofs.lemmas.Option.{none-some}
use Rattle.cl_maps.specs.Maps.{Map, key_cmp, empty, get, put}
use Rattle.cl_maps.proofs.MapLaws.{keys_total, get-put, same_keys, self_equal}
use Rattle.cl_tokens.specs.Table.{is_key}

abbrev pub In : {R : Type 0} → R → List R → Type 0
In r [] = ⊥
In r (x ∷ xs) = (r ≡ x) ⊎ In r xs

-- just what has a property, in any order
pub record Listed {R : Type 0} (P : R → Type 0) : Type 0 where
  pub rows : List R
  pub sound : (r : R) → In r rows → P r
  pub whole : (r : R) → P r → In r rows

in_front : {R : Type 0} (r : R) (xs ys : List R) → In r xs → In r (xs ++ ys)
in_front r (x ∷ xs) ys (inl same) = inl same
in_front r (x ∷ xs) ys (inr more) = inr (in_front r xs ys more)
in_front r [] ys h = absurd h

behind : {R : Type 0} (r : R) (xs ys : List R) → In r ys → In r (xs ++ ys)
behind r [] ys h = h
behind r (x ∷ xs) ys h = inr (behind r xs ys h)

of_two : {R : Type 0} (r : R) (xs ys : List R) → In r (xs ++ ys) → In r xs ⊎ In r ys
of_two r [] ys h = inr h
of_two r (x ∷ xs) ys (inl same) = inl (inl same)
of_two r (x ∷ xs) ys (inr more) = by (of_two r xs ys more)
  where
    by : In r xs ⊎ In r ys → In r (x ∷ xs) ⊎ In r ys
    by (inl h) = inl (inr h)
    by (inr h) = inr h

pub none_listed : {R : Type 0} (P : R → Type 0) → ((r : R) → P r → ⊥) → Listed P
none_listed P never = record { rows = []; sound = λ r h. absurd h; whole = λ r h. absurd (never r h) }

pub one_listed : {R : Type 0} (P : R → Type 0) (x : R) → P x → ((r : R) → P r → r ≡ x) → Listed P
one_listed P x is alone = record { rows = x ∷ []; sound = one; whole = λ r h. inl (alone r h) }
  where
    one : (r : _) → In r (x ∷ []) → P r
    one r (inl same) = subst P (sym same) is
    one r (inr h) = absurd h

pub same_listed : {R : Type 0} (P Q : R → Type 0) → ((r : R) → P r → Q r) → ((r : R) → Q r → P r) → Listed P → Listed Q
same_listed P Q there back l = record { rows = l.rows; sound = λ r h. there r (l.sound r h); whole = λ r h. l.whole r (back r h) }

pub both_listed : {R : Type 0} (P Q : R → Type 0) → Listed P → Listed Q → Listed (λ r. P r ⊎ Q r)
both_listed {R} P Q a b = record { rows = a.rows ++ b.rows; sound = λ r h. part r (of_two r a.rows b.rows h); whole = all }
  where
    part : (r : R) → In r a.rows ⊎ In r b.rows → P r ⊎ Q r
    part r (inl h) = inl (a.sound r h)
    part r (inr h) = inr (b.sound r h)

    all : (r : R) → P r ⊎ Q r → In r (a.rows ++ b.rows)
    all r (inl h) = in_front r a.rows b.rows (a.whole r h)
    all r (inr h) = behind r a.rows b.rows (b.whole r h)

-- what has a property by one of the elements of a list
each_listed : {R E : Type 0} (Q : E → R → Type 0) (es : List E) → ((e : E) → Listed (Q e)) → Listed (λ r. (e : E) × In e es × Q e r)
each_listed Q [] given = none_listed _ (λ r h. absurd h.1)
each_listed {R} {E} Q (e ∷ es) given =
    same_listed (λ r. Q e r ⊎ ((f : E) × In f es × Q f r)) (λ r. (f : E) × In f (e ∷ es) × Q f r) there back
    (both_listed (Q e) (λ r. (f : E) × In f es × Q f r) (given e) (each_listed Q es given))
  where
    there : (r : R) → Q e r ⊎ ((f : E) × In f es × Q f r) → (f : E) × In f (e ∷ es) × Q f r
    there r (inl h) = (e, inl refl, h)
    there r (inr h) = (h.0, inr h.1, h.2)

    back : (r : R) → (f : E) × In f (e ∷ es) × Q f r → Q e r ⊎ ((f : E) × In f es × Q f r)
    back r (f, inl same, h) = inl (subst (λ g. Q g r) same h)
    back r (f, inr more, h) = inr (f, more, h)

-- ---- maps

found_in : {A : Type 0} (key : List ℕ) (a : A) (es : List (List ℕ × A)) → find key_cmp key es ≡ Some a → In (key, a) es
found_in key a [] is = absurd (none-some a is)
found_in {A} key a (e ∷ es) is =
    elim (is_key key e.0) as (λ b. is_key key e.0 ≡ b → cond b (Some e.1) (find key_cmp key es) ≡ Some a → In (key, a) (e ∷ es)) [
      | true ↦ λ same here. let value : e.1 ≡ a = cc in inl (λ i. (same_keys key e.0 same i, sym value i))
      | false ↦ λ same more. inr (found_in key a es more)
    ] refl is

-- what has a property by a key of a map and what stands under it
abbrev pub OfMap : {R A : Type 0} → Map A → (List ℕ → A → R → Type 0) → R → Type 0
OfMap {R} {A} m Q r = (key : List ℕ) × (a : A) × (get key m ≡ Some a) × Q key a r

-- the same of one key
abbrev AtKey : {R A : Type 0} → Map A → (List ℕ → A → R → Type 0) → List ℕ → R → Type 0
AtKey {R} {A} m Q key r = (a : A) × (get key m ≡ Some a) × Q key a r

same_value : {A : Type 0} (o : Option A) (a b : A) → o ≡ Some a → o ≡ Some b → b ≡ a
same_value o a b is also = cc

key_listed : {R A : Type 0} (m : Map A) (Q : List ℕ → A → R → Type 0) (key : List ℕ) → ((a : A) → get key m ≡ Some a → Listed (Q key a)) → Listed (AtKey m Q key)
key_listed {R} {A} m Q key given = by (get key m) refl
  where
    by : (o : Option A) → get key m ≡ o → Listed (AtKey m Q key)
    by None none = none_listed (AtKey m Q key) (λ r h. none-some h.0 (sym none ∙ h.1))
    by (Some a) is =
        same_listed (Q key a) (AtKey m Q key) (λ r h. (a, is, h)) (λ r h. subst (λ x. Q key x r) (same_value (get key m) a h.0 is h.1) h.2) (given a is)

pub map_listed : {R A : Type 0} (m : Map A) (Q : List ℕ → A → R → Type 0) → ((key : List ℕ) (a : A) → get key m ≡ Some a → Listed (Q key a)) → Listed (OfMap m Q)
map_listed {R} {A} m Q given =
    same_listed (λ r. (e : List ℕ × A) × In e m.list × AtKey m Q e.0 r) (OfMap m Q) (λ r h. (h.0.0, h.2.0, h.2.1, h.2.2))
    (λ r h. ((h.0, h.1), found_in h.0 h.1 m.list h.2, (h.1, h.2, h.3))) (each_listed (λ e r. AtKey m Q e.0 r) m.list (λ e. key_listed m Q e.0 (given e.0)))

pub never_both : (b : Bool) → b ≡ false → b ≡ true → ⊥
never_both b e f = cc

never_less : (o : Ordering) → o ≡ Less → is_lt o ≡ false → ⊥
never_less o is other = never_both (is_lt o) other (ap is_lt is)

-- ---- a map of a list, by a key and a value of each element

module _ {R A : Type 0} (key : R → List ℕ) (value : R → A) where
  abbrev pub made_map : List R → Map A
  made_map [] = empty
  made_map (r ∷ rs) = put (key r) (value r) (made_map rs)

  -- one of the elements has this key and this value
  abbrev pub MadeOf : List R → List ℕ → A → Type 0
  MadeOf rs k a = (r : R) × In r rs × (k ≡ key r) × (a ≡ value r)

  pub made_from : (rs : List R) (k : List ℕ) (a : A) → get k (made_map rs) ≡ Some a → MadeOf rs k a
  made_from [] k a is = absurd (none-some a is)
  made_from (r ∷ rs) k a is = by (is_key k (key r)) refl (sym (get-put (made_map rs) (key r) (value r) k) ∙ is) (made_from rs k a)
    where
      by : (b : Bool) → is_key k (key r) ≡ b → cond b (Some (value r)) (get k (made_map rs)) ≡ Some a → (get k (made_map rs) ≡ Some a → MadeOf rs k a) → MadeOf (r ∷ rs) k a
      by true same here others = (r, inl refl, same_keys k (key r) same, cc)
      by false other more others = let rest = others more in (rest.0, inr rest.1, rest.2, rest.3)

  -- where one key has one value
  pub made_to : (rs : List R) → ((r q : R) → In r rs → In q rs → key r ≡ key q → value r ≡ value q) → (r : R) → In r rs → get (key r) (made_map rs) ≡ Some (value r)
  made_to [] one r h = absurd h
  made_to (q ∷ rs) one r h = get-put (made_map rs) (key q) (value q) (key r) ∙ by (is_key (key r) (key q)) refl h (made_to rs (λ x y a b. one x y (inr a) (inr b)) r)
    where
      by : (b : Bool) → is_key (key r) (key q) ≡ b → In r (q ∷ rs) → (In r rs → get (key r) (made_map rs) ≡ Some (value r)) → cond b (Some (value q)) (get (key r) (made_map rs)) ≡ Some (value r)
      by true same there others = ap Some (one q r (inl refl) there (sym (same_keys (key r) (key q) same)))
      by false other (inr more) others = others more
      by false other (inl is) others = absurd (never_both (is_key (key r) (key q)) other (ap (λ x. is_key (key x) (key q)) is ∙ self_equal (key q)))

-- ---- the least by key of those that pass a test

module _ {R : Type 0} (key : R → List ℕ) (test : R → Bool) where
  abbrev IsBefore : R → R → Type 0
  IsBefore q r = key_cmp (key q) (key r) ≡ Less

  abbrev Least : List R → Type 0
  Least rs = (r : R) × In r rs × (test r ≡ true) × ((q : R) → In q rs → test q ≡ true → IsBefore q r → ⊥)

  abbrev Passes : List R → Type 0
  Passes rs = Least rs ⊎ ((q : R) → In q rs → test q ≡ true → ⊥)

  never_itself : (r : R) → IsBefore r r → ⊥
  never_itself r h = never_both (is_key (key r) (key r)) (ap is_eq h) (self_equal (key r))

  first_least : (r : R) (rs : List R) → test r ≡ true → ((q : R) → In q rs → test q ≡ true → IsBefore q r → ⊥) → Least (r ∷ rs)
  first_least r rs here others = (r, inl refl, here, all)
    where
      all : (q : R) → In q (r ∷ rs) → test q ≡ true → IsBefore q r → ⊥
      all q (inl same) passes h = never_itself r (subst (λ x. IsBefore x r) same h)
      all q (inr more) passes h = others q more passes h

  behind_least : (r : R) (rs : List R) (l : Least rs) → (test r ≡ true → IsBefore r l.0 → ⊥) → Least (r ∷ rs)
  behind_least r rs l never = (l.0, inr l.1, l.2, all)
    where
      all : (q : R) → In q (r ∷ rs) → test q ≡ true → IsBefore q l.0 → ⊥
      all q (inl same) passes h = never (ap test (sym same) ∙ passes) (subst (λ x. IsBefore x l.0) same h)
      all q (inr more) passes h = l.3 q more passes h

  passes_more : (r : R) (rs : List R) (b : Bool) → test r ≡ b → Passes rs → Passes (r ∷ rs)
  passes_more r rs true here (inr none) = inl (first_least r rs here (λ q more passes h. none q more passes))
  passes_more r rs true here (inl l) = inl (by (key_cmp (key r) (key l.0)) refl)
    where
      by : (o : Ordering) → key_cmp (key r) (key l.0) ≡ o → Least (r ∷ rs)
      by Less is = first_least r rs here (λ q more passes h. l.3 q more passes (keys_total.trans (key q) (key r) (key l.0) h is))
      by Equal is = behind_least r rs l (λ passes h. never_less Equal (sym is ∙ h) refl)
      by Greater is = behind_least r rs l (λ passes h. never_less Greater (sym is ∙ h) refl)
  passes_more r rs false here (inl l) = inl (behind_least r rs l (λ passes h. never_both (test r) here passes))
  passes_more r rs false here (inr none) = inr all
    where
      all : (q : R) → In q (r ∷ rs) → test q ≡ true → ⊥
      all q (inl same) passes = never_both (test r) here (ap test (sym same) ∙ passes)
      all q (inr more) passes = none q more passes

  passes_of : (rs : List R) → Passes rs
  passes_of [] = inr (λ q h passes. h)
  passes_of (r ∷ rs) = passes_more r rs (test r) refl (passes_of rs)

  pub least_there : (rs : List R) (r : R) → In r rs → test r ≡ true → Least rs
  least_there rs r there passes = by (passes_of rs)
    where
      by : Passes rs → Least rs
      by (inl l) = l
      by (inr none) = absurd (none r there passes)
