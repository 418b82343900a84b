-- A stable sort gives the one row that putting each element in its place gives.
use Rattle.std.proofs.Common.{◌≡◌, ℕ, ◌<◌, suc, List, [], ◌∷◌, length, get_or, Bool, true, false, cond, not, ◌&&◌, filter, refl, ap, sym, ◌∙◌, arith, add-one}
use Rattle.std.specs.Cmp.{IsStrictWeakOrder}
use Rattle.std.specs.List.Sorted.{ties, IsSortedBy, IsStableBy}
use Rattle.std.proofs.lemmas.Bool.{both_ways, false_from_ne_true, true_from_ne_false, and_parts, and_from, not_from_false, not-true}
use Rattle.std.proofs.lemmas.List.Sorted.{sorted_far}

module _ {X : Type 0} (lt : X → X → Bool) (o : IsStrictWeakOrder lt) where
  -- an element put before the first that isn't less
  abbrev pub put : X → List X → List X
  put f [] = f ∷ []
  put f (g ∷ gs) = cond (lt g f) (g ∷ put f gs) (f ∷ g ∷ gs)

  abbrev pub arranged : List X → List X
  arranged [] = []
  arranged (f ∷ fs) = put f (arranged fs)

  -- none of the row is less than the element
  abbrev Low : X → List X → Type 0
  Low y [] = Unit {0}
  Low y (z ∷ zs) = (lt z y ≡ false) × Low y zs

  abbrev Rises : List X → Type 0
  Rises [] = Unit {0}
  Rises (y ∷ ys) = Low y ys × Rises ys

  low_chain : (x y : X) (zs : List X) → lt y x ≡ false → Low y zs → Low x zs
  low_chain x y [] e l = tt
  low_chain x y (z ∷ zs) e l = (o.chain z y x l.0 e, low_chain x y zs e l.1)

  low_put : (y f : X) (gs : List X) → lt f y ≡ false → Low y gs → Low y (put f gs)
  low_put y f [] e l = (e, tt)
  low_put y f (g ∷ gs) e l =
      elim (lt g f) as (λ b. Low y (cond b (g ∷ put f gs) (f ∷ g ∷ gs))) [
        | true ↦ (l.0, low_put y f gs e l.1)
        | false ↦ (e, l)
      ]

  rises_put : (f : X) (gs : List X) → Rises gs → Rises (put f gs)
  rises_put f [] r = (tt, tt)
  rises_put f (g ∷ gs) r =
      elim (lt g f) as (λ b. lt g f ≡ b → Rises (cond b (g ∷ put f gs) (f ∷ g ∷ gs))) [
        | true ↦ λ e. (low_put g f gs (o.one_way g f e) r.0, rises_put f gs r.1)
        | false ↦ λ e. ((e, low_chain f g gs e r.0), r)
      ] refl

  rises_arranged : (fs : List X) → Rises (arranged fs)
  rises_arranged [] = tt
  rises_arranged (f ∷ fs) = rises_put f (arranged fs) (rises_arranged fs)

  -- two that tie with one aren't apart
  tied : (x g f : X) → ties lt x g ≡ true → ties lt x f ≡ true → lt g f ≡ false
  tied x g f p q =
      let a = and_parts (not (lt x g)) (not (lt g x)) p in
      let b = and_parts (not (lt x f)) (not (lt f x)) q in
      o.chain g x f (not-true (lt g x) a.1) (not-true (lt x f) b.0)

  put_kept : (x f : X) (gs : List X) → filter (ties lt x) (put f gs) ≡ filter (ties lt x) (f ∷ gs)
  put_kept x f [] = refl
  put_kept x f (g ∷ gs) =
      elim (lt g f) as (λ b. lt g f ≡ b → filter (ties lt x) (cond b (g ∷ put f gs) (f ∷ g ∷ gs)) ≡ filter (ties lt x) (f ∷ g ∷ gs)) [
        | true ↦ λ e.
            past (ties lt x g) (ties lt x f) refl refl e (filter (ties lt x) (put f gs)) (filter (ties lt x) gs) (put_kept x f gs)
        | false ↦ λ e. refl
      ] refl where
        past : (p q : Bool) → ties lt x g ≡ p → ties lt x f ≡ q → lt g f ≡ true → (us vs : List X) → us ≡ cond q (f ∷ vs) vs → cond p (g ∷ us) us ≡ cond q (f ∷ cond p (g ∷ vs) vs) (cond p (g ∷ vs) vs)
        past true true a b e us vs h = absurd (both_ways (lt g f) (tied x g f a b) e)
        past true false a b e us vs h = ap (λ (ws : List X). g ∷ ws) h
        past false true a b e us vs h = h
        past false false a b e us vs h = h

  arranged_kept : (x : X) (fs : List X) → filter (ties lt x) (arranged fs) ≡ filter (ties lt x) fs
  arranged_kept x [] = refl
  arranged_kept x (f ∷ fs) =
      put_kept x f (arranged fs) ∙ ap (λ (gs : List X). cond (ties lt x f) (f ∷ gs) gs) (arranged_kept x fs)

  never : (x : X) → lt x x ≡ false
  never x = false_from_ne_true (lt x x) (λ e. both_ways (lt x x) (o.one_way x x e) e)

  tie_self : (x : X) → ties lt x x ≡ true
  tie_self x = and_from (not (lt x x)) (not (lt x x)) (not_from_false (lt x x) (never x)) (not_from_false (lt x x) (never x))

  -- what is less than the first of a rising row ties with none of it
  no_tie : (y z : X) → lt y z ≡ true → (w : X) → lt w z ≡ false → ties lt y w ≡ false
  no_tie y z e w l =
      let less : lt y w ≡ true = true_from_ne_false (lt y w) (λ n. both_ways (lt y z) (o.chain y w z n l) e) in
      ap (λ (b : Bool). not b && not (lt w y)) less

  none_tied : (y z : X) (zs : List X) → lt y z ≡ true → Low z zs → filter (ties lt y) zs ≡ []
  none_tied y z [] e l = refl
  none_tied y z (w ∷ zs) e l =
      ap (λ (b : Bool). cond b (w ∷ filter (ties lt y) zs) (filter (ties lt y) zs)) (no_tie y z e w l.0) ∙ none_tied y z zs e l.1

  first_kept : (y : X) (ys : List X) → filter (ties lt y) (y ∷ ys) ≡ y ∷ filter (ties lt y) ys
  first_kept y ys = ap (λ (b : Bool). cond b (y ∷ filter (ties lt y) ys) (filter (ties lt y) ys)) (tie_self y)

  -- the first of one row isn't less than that of the other
  not_less : (y z : X) (ys zs : List X) → Low z zs → filter (ties lt y) (y ∷ ys) ≡ filter (ties lt y) (z ∷ zs) → lt y z ≡ false
  not_less y z ys zs l h =
      false_from_ne_true (lt y z) (λ e.
      let none : filter (ties lt y) (z ∷ zs) ≡ [] = none_tied y z (z ∷ zs) e (never z, l) in
      let some : y ∷ filter (ties lt y) ys ≡ [] = sym (first_kept y ys) ∙ h ∙ none in
      absurd cc)

  pub one_row : (ys zs : List X) → Rises ys → Rises zs → ((x : X) → filter (ties lt x) ys ≡ filter (ties lt x) zs) → ys ≡ zs
  one_row [] [] r s h = refl
  one_row [] (z ∷ zs) r s h = let e : [] ≡ z ∷ filter (ties lt z) zs = h z ∙ first_kept z zs in absurd cc
  one_row (y ∷ ys) [] r s h = let e : y ∷ filter (ties lt y) ys ≡ [] = sym (first_kept y ys) ∙ h y in absurd cc
  one_row (y ∷ ys) (z ∷ zs) r s h =
      let below : lt y z ≡ false = not_less y z ys zs s.0 (h y) in
      let above : lt z y ≡ false = not_less z y zs ys r.0 (sym (h z)) in
      let tie : ties lt y z ≡ true = and_from (not (lt y z)) (not (lt z y)) (not_from_false (lt y z) below) (not_from_false (lt z y) above) in
      let there : filter (ties lt y) (z ∷ zs) ≡ z ∷ filter (ties lt y) zs = ap (λ (b : Bool). cond b (z ∷ filter (ties lt y) zs) (filter (ties lt y) zs)) tie in
      let firsts : y ∷ filter (ties lt y) ys ≡ z ∷ filter (ties lt y) zs = sym (first_kept y ys) ∙ h y ∙ there in
      let same : y ≡ z = cc in
      let rest : (x : X) → filter (ties lt x) ys ≡ filter (ties lt x) zs = λ x. tails y z (filter (ties lt x) ys) (filter (ties lt x) zs) (ties lt x y) (ties lt x z) same (ap (ties lt x) same) (h x) in
      let both : ys ≡ zs = one_row ys zs r.1 s.1 rest in
      cc where
        tails : (y z : X) (us vs : List X) (p q : Bool) → y ≡ z → p ≡ q → cond p (y ∷ us) us ≡ cond q (z ∷ vs) vs → us ≡ vs
        tails y z us vs true true e f h = cc
        tails y z us vs true false e f h = absurd cc
        tails y z us vs false true e f h = absurd cc
        tails y z us vs false false e f h = h

  low_from : (y : X) (ys : List X) → ((j : ℕ) → j < length ys → lt (get_or ys j y) y ≡ false) → Low y ys
  low_from y [] h = tt
  low_from y (z ∷ zs) h = (h 0 (omega arith), low_from y zs (λ j k. h (suc j) (omega (arith, k))))

  next : (y : X) (ys : List X) → IsSortedBy lt (y ∷ ys) → IsSortedBy lt ys
  next y ys h k d low up = simp add-one (simp add-one at (h (suc k) d (omega arith) (omega (arith, up))))

  rises_from_sorted : (ys : List X) → IsSortedBy lt ys → Rises ys
  rises_from_sorted [] h = tt
  rises_from_sorted (y ∷ ys) h = (
    low_from y ys (λ j k. sorted_far lt o (y ∷ ys) h 0 (suc j) y (omega arith) (omega (arith, k))),
    rises_from_sorted ys (next y ys h),
  )

  pub sorted_is_arranged : (xs ys : List X) → IsSortedBy lt ys → IsStableBy lt xs ys → ys ≡ arranged xs
  sorted_is_arranged xs ys up stable =
      one_row ys (arranged xs) (rises_from_sorted ys up) (rises_arranged xs) (λ x. stable x ∙ sym (arranged_kept x xs))
