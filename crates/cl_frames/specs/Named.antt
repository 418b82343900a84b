-- Names bound to values, scope in scope.
use Rattle.std.specs.Prelude.{ℕ, suc, List, [], ◌∷◌, ◌++◌, map, zip, Option, Some, None, refl}
use Rattle.std.specs.Borrow.{Bor}
use Rattle.std.specs.Coded.{Coded, code_by, coded×, coded_ℕ, coded_list}
use Rattle.cl_types.specs.Types.{PlainType}
use Rattle.cl_values.specs.Tree.{Tree as Val}
use Rattle.cl_values.specs.TreeCode.{tree_code}
use Rattle.cl_frames.specs.declared.own.Own.{Own}
use Rattle.cl_frames.specs.declared.own.Own.TheVariants.{Call, One, Pairs}

-- the parameters of a function, and the values that they are bound to
abbrev pub paired : List (List ℕ × PlainType) → List Val → List (List ℕ × Val)
paired params values = zip (map (λ x. x.0) params) values

-- the names of one scope
abbrev pub own_seen : Own → List (List ℕ × Val)
own_seen (Call function values) = paired function.now.params.items values.now
own_seen (One name value) = (name.now, value.now) ∷ []
own_seen (Pairs pairs) = pairs.now

-- the outermost first, and how many scopes stand round the innermost
pub record Named : Type 0 where
  pub values : List (List ℕ × Val)
  pub depth : ℕ

abbrev pub named : Option (Bor Named) → List (List ℕ × Val) → Named
named None own = record { values = own; depth = 0 }
named (Some outer) own = record { values = outer.now.values ++ own; depth = suc outer.now.depth }

abbrev pub named_code : Coded Named
named_code = code_by (List (List ℕ × Val) × ℕ) (coded× (coded_list (coded× (coded_list coded_ℕ) tree_code)) coded_ℕ) (λ n. (n.values, n.depth)) (λ p. record { values = p.0; depth = p.1 }) (λ _. refl)
