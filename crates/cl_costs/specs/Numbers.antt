-- Cost functions as plain numbers, by which tables are compared.
use Rattle.std.specs.Prelude.{ℕ, Bool, List, [], ◌∷◌, map, nat_eq}
use Rattle.std.specs.Cmp.Lexicographic.{pointwise}
use Rattle.cl_shapes.specs.declared.function.CostFn.{CostFn}
use Rattle.cl_shapes.specs.declared.function.Shape.{Shape}
use Rattle.cl_shapes.specs.declared.function.Shape.TheVariants.{Constant, Linear, Logn, Nlogn}

-- a shape as its kind and its coefficients, 0 where it has none
abbrev pub shape_numbers : Shape → ℕ × ℕ × ℕ
shape_numbers (Constant b) = (0, 0, b)
shape_numbers (Linear a b) = (1, a, b)
shape_numbers (Logn a b) = (2, a, b)
shape_numbers (Nlogn a b) = (3, a, b)

abbrev pub with_shape : Shape → List ℕ → List ℕ
with_shape shape rest = (shape_numbers shape).0 ∷ (shape_numbers shape).1 ∷ (shape_numbers shape).2 ∷ rest

-- a function as the numbers of its shapes, and a 0
abbrev pub numbers_of : CostFn → List ℕ
numbers_of f = with_shape f.runtime (with_shape f.read_count (with_shape f.read_length (with_shape f.write_count (with_shape f.write_length (0 ∷ [])))))

-- two tables are the same, by their numbers
abbrev pub is_same : List CostFn → List CostFn → Bool
is_same a b = pointwise (pointwise nat_eq) (map numbers_of a) (map numbers_of b)
