-- What `find` finds by a test of `<` is the first above.
use Rattle.std.proofs.Common.{◌≡◌, inl, inr, ℕ, ◌<◌, ◌≤◌, List, [], ◌∷◌, ◌++◌, refl, sym, ap, subst}
use Rattle.std.specs.Prelude.{◌↔◌, nat_lt, find, None, Some}
use Rattle.std.proofs.lemmas.Bool.{cases_lt, lt-ltb, le-ltb}
use Rattle.std.proofs.lemmas.List.Elements.{All-from_recursion}
use Rattle.std.specs.List.{AllByRecursion as ByRecursion}
use Rattle.std.proofs.lemmas.Option.{none-some}
use Rattle.cl_shapes.specs.Costs.{Cost5, Dimension, dimensions, part, first_above, IsAtMost, IsFirstAbove}

-- y is the first of xs at which g is above f
record IsFirst {X : Type 0} (f g : X → ℕ) (xs : List X) (y : X) : Type 0 where
  before : List X
  after : List X
  order : xs ≡ before ++ y ∷ after
  within : ByRecursion (λ e. g e ≤ f e) before
  above : f y < g y

later : {X : Type 0} (f g : X → ℕ) (x y : X) (xs : List X) → g x ≤ f x → IsFirst f g xs y → IsFirst f g (x ∷ xs) y
later f g x y xs small first = record {
  before = x ∷ first.before;
  after = first.after;
  order = ap (λ rest. x ∷ rest) first.order;
  within = (small, first.within);
  above = first.above;
}

find-some : {X : Type 0} (f g : X → ℕ) (xs : List X) (y : X) → find (λ d. nat_lt (f d) (g d)) xs ≡ Some y → IsFirst f g xs y
find-some f g [] y found = absurd (none-some y found)
find-some f g (x ∷ xs) y found =
    elim (cases_lt (f x) (g x)) [
      | inl large ↦
          let same : x ≡ y = cc (rw (lt-ltb (f x) (g x) large) at found) in
          subst (IsFirst f g (x ∷ xs)) same (record { before = []; after = xs; order = refl; within = tt; above = large })
      | inr small ↦ later f g x y xs small (find-some f g xs y (rw (le-ltb (f x) (g x) small) at found))
    ]

find-none : {X : Type 0} (f g : X → ℕ) (xs : List X) → find (λ d. nat_lt (f d) (g d)) xs ≡ None → ByRecursion (λ e. g e ≤ f e) xs
find-none f g [] none = tt
find-none f g (x ∷ xs) none =
    elim (cases_lt (f x) (g x)) [
      | inl large ↦ absurd (none-some x (sym (rw (lt-ltb (f x) (g x) large) at none)))
      | inr small ↦ (small, find-none f g xs (rw (le-ltb (f x) (g x) small) at none))
    ]

find-within : {X : Type 0} (f g : X → ℕ) (xs : List X) → ByRecursion (λ e. g e ≤ f e) xs → find (λ d. nat_lt (f d) (g d)) xs ≡ None
find-within f g [] within = refl
find-within f g (x ∷ xs) within = rw (le-ltb (f x) (g x) within.0) (find-within f g xs within.1)

pub first_above-some : (limit cost : Cost5) (d : Dimension) → first_above limit cost ≡ Some d → IsFirstAbove limit cost d
first_above-some limit cost d found =
    let first : IsFirst (λ e. part e limit) (λ e. part e cost) dimensions d = find-some (λ e. part e limit) (λ e. part e cost) dimensions d found in
    record { before = first.before; after = first.after; order = first.order; within = All-from_recursion (λ e. part e cost ≤ part e limit) first.before first.within; above = first.above }

pub first_above-none : (limit cost : Cost5) → (first_above limit cost ≡ None) ↔ IsAtMost cost limit
first_above-none limit cost = (
  (λ none. let all : ByRecursion (λ e. part e cost ≤ part e limit) dimensions = find-none (λ e. part e limit) (λ e. part e cost) dimensions none in
      record { runtime = all.0; read_count = all.1.0; read_length = all.1.1.0; write_count = all.1.1.1.0; write_length = all.1.1.1.1.0 }),
  (λ most. find-within (λ e. part e limit) (λ e. part e cost) dimensions (most.runtime, (most.read_count, (most.read_length, (most.write_count, (most.write_length, tt)))))),
)
