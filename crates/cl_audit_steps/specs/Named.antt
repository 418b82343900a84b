-- Names bound to values, those of the outer scopes first.
use Rattle.std.specs.Prelude.{ℕ, suc, List, ◌++◌, Option, Some, None, refl}
use Rattle.std.specs.Borrow.{Bor}
use Rattle.std.specs.Coded.{Coded, code_by, coded×, coded_ℕ, coded_list}
use Rattle.cl_values.specs.Tree.{Tree as Val}
use Rattle.cl_values.specs.TreeCode.{tree_code}

-- the values, and how many scopes are outside the innermost
pub record Named : Type 0 where
  pub values : List (List ℕ × Val)
  pub depth : ℕ

abbrev pub named : Option (Bor Named) → List (List ℕ × Val) → Named
named None own = record { values = own; depth = 0 }
named (Some outer) own = record { values = outer.now.values ++ own; depth = suc outer.now.depth }

abbrev pub values_code : Coded (List (List ℕ × Val))
values_code = coded_list (coded× (coded_list coded_ℕ) tree_code)

abbrev pub named_code : Coded Named
named_code = code_by (List (List ℕ × Val) × ℕ) (coded× values_code coded_ℕ) (λ n. (n.values, n.depth)) (λ p. record { values = p.0; depth = p.1 }) (λ _. refl)
