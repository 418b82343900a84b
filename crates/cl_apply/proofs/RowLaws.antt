-- A row isn't defined at another number of values than it takes.
use Rattle.std.proofs.Common.{◌≡◌, ◌≢◌, List, [], ◌∷◌, length, refl}
use Rattle.cl_values.specs.declared.native.Arity.TheVariants as arity
use Rattle.cl_values.specs.Tree.{Tree}
use Rattle.cl_values.specs.Computed.{Undefined}
use Rattle.cl_values.specs.Natives.{ValueRow, One, Two, Three, Each, arity_of, at_row}

pub not_one : (row : ValueRow) (vs : List Tree) → arity_of row ≡ arity.One → length vs ≢ 1 → at_row row vs ≡ Undefined
not_one (One f) [] e h = refl
not_one (One f) (v ∷ []) e h = absurd (h refl)
not_one (One f) (v ∷ w ∷ vs) e h = refl
not_one (Two f) vs e h = absurd cc
not_one (Three f) vs e h = absurd cc
not_one (Each f) vs e h = absurd cc

pub not_two : (row : ValueRow) (vs : List Tree) → arity_of row ≡ arity.Two → length vs ≢ 2 → at_row row vs ≡ Undefined
not_two (Two f) [] e h = refl
not_two (Two f) (v ∷ []) e h = refl
not_two (Two f) (v ∷ w ∷ []) e h = absurd (h refl)
not_two (Two f) (v ∷ w ∷ u ∷ vs) e h = refl
not_two (One f) vs e h = absurd cc
not_two (Three f) vs e h = absurd cc
not_two (Each f) vs e h = absurd cc

pub not_three : (row : ValueRow) (vs : List Tree) → arity_of row ≡ arity.Three → length vs ≢ 3 → at_row row vs ≡ Undefined
not_three (Three f) [] e h = refl
not_three (Three f) (v ∷ []) e h = refl
not_three (Three f) (v ∷ w ∷ []) e h = refl
not_three (Three f) (v ∷ w ∷ u ∷ []) e h = absurd (h refl)
not_three (Three f) (v ∷ w ∷ u ∷ t ∷ vs) e h = refl
not_three (One f) vs e h = absurd cc
not_three (Two f) vs e h = absurd cc
not_three (Each f) vs e h = absurd cc
