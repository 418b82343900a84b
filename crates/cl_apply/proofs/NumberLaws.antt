-- Numbers one after another.
use Rattle.std.proofs.Common.{◌≡◌, ◌≢◌, List, [], ◌∷◌, length, Option, Some, None, refl, sym, ap, ◌∙◌}
use Rattle.cl_arith.specs.declared.Num.{Num}
use Rattle.cl_arith.specs.Numbers.{Kind, kind_of}
use Rattle.cl_arith.specs.Operations.{computed, difference}
use Rattle.cl_values.specs.Tree.{Tree}
use Rattle.cl_values.specs.Arithmetic.{zero_of, number_of, number_in, and_number, and_maybe, of_kind, with_kind, on_numbers, numeric, from_left, subtracted, number_or_abort}

-- ---- a difference of one number alone, and of more

none_more : (kind : Kind) (n : Num) → on_numbers subtracted (and_number n (of_kind kind [])) ≡ number_or_abort (computed difference (zero_of (kind_of n)) n)
none_more kind n = refl

pub alone : (v : Tree) (n : Num) → Some n ≡ number_of v → numeric subtracted (v ∷ []) ≡ number_or_abort (computed difference (zero_of (kind_of n)) n)
alone v n h = ap (on_numbers subtracted) (ap (λ o. with_kind o []) (sym h)) ∙ none_more (kind_of n) n

two_more : (n : Num) (m : Option Num) (o : Option (List Num)) → on_numbers subtracted (and_number n (and_maybe m o)) ≡ on_numbers (from_left difference) (and_number n (and_maybe m o))
two_more n None o = refl
two_more n (Some m) None = refl
two_more n (Some m) (Some ns) = refl

more : (m : Option Num) (w : Tree) (ws : List Tree) → on_numbers subtracted (with_kind m (w ∷ ws)) ≡ on_numbers (from_left difference) (with_kind m (w ∷ ws))
more None w ws = refl
more (Some n) w ws = two_more n (number_in (kind_of n) w) (of_kind (kind_of n) ws)

pub not_alone : (vs : List Tree) → length vs ≢ 1 → numeric subtracted vs ≡ numeric (from_left difference) vs
not_alone [] h = refl
not_alone (v ∷ []) h = absurd (h refl)
not_alone (v ∷ w ∷ ws) h = more (number_of v) w ws
