-- Words that are numbers.
use Rattle.std.proofs.Common.{◌≡◌, ℕ, true, List, [], ◌∷◌}
use Rattle.std.specs.List.{list_all}
use Rattle.cl_types.specs.Name.{is_digit}
use Rattle.cl_sexpr.specs.Leaf.{are_digits}

pub all_digits : (word : List ℕ) → are_digits word ≡ true → list_all is_digit word ≡ true
all_digits [] h = absurd cc
all_digits (c ∷ cs) h = h
