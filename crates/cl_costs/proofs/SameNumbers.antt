-- Tables are compared number by number.
use Rattle.std.proofs.Common.{◌≡◌, ℕ, List, [], ◌∷◌, map, refl, ap}
use Rattle.std.specs.Bool.{Decides}
use Rattle.std.specs.Cmp.Lexicographic.{pointwise_decides, bytes_decides}
use Rattle.cl_shapes.specs.declared.function.CostFn.{CostFn}
use Rattle.cl_shapes.specs.declared.function.Shape.{Shape}
use Rattle.cl_shapes.specs.declared.function.Shape.TheVariants.{Constant, Linear, Logn, Nlogn}
use Rattle.cl_costs.specs.Numbers.{shape_numbers, with_shape, numbers_of, is_same}

-- ---- the numbers of a function say which it is

shape_again : (s t : Shape) → (shape_numbers s).0 ≡ (shape_numbers t).0 → (shape_numbers s).1 ≡ (shape_numbers t).1 → (shape_numbers s).2 ≡ (shape_numbers t).2 → s ≡ t
shape_again (Constant b) (Constant d) kind first second = ap Constant second
shape_again (Constant b) (Linear c d) kind first second = absurd cc
shape_again (Constant b) (Logn c d) kind first second = absurd cc
shape_again (Constant b) (Nlogn c d) kind first second = absurd cc
shape_again (Linear a b) (Constant d) kind first second = absurd cc
shape_again (Linear a b) (Linear c d) kind first second = λ i. Linear (first i) (second i)
shape_again (Linear a b) (Logn c d) kind first second = absurd cc
shape_again (Linear a b) (Nlogn c d) kind first second = absurd cc
shape_again (Logn a b) (Constant d) kind first second = absurd cc
shape_again (Logn a b) (Linear c d) kind first second = absurd cc
shape_again (Logn a b) (Logn c d) kind first second = λ i. Logn (first i) (second i)
shape_again (Logn a b) (Nlogn c d) kind first second = absurd cc
shape_again (Nlogn a b) (Constant d) kind first second = absurd cc
shape_again (Nlogn a b) (Linear c d) kind first second = absurd cc
shape_again (Nlogn a b) (Logn c d) kind first second = absurd cc
shape_again (Nlogn a b) (Nlogn c d) kind first second = λ i. Nlogn (first i) (second i)

tails : {A : Type 0} (x y : A) (xs ys : List A) → x ∷ xs ≡ y ∷ ys → (x ≡ y) × (xs ≡ ys)
tails x y xs ys e = (cc, cc)

with_again : (s t : Shape) (xs ys : List ℕ) → with_shape s xs ≡ with_shape t ys → (s ≡ t) × (xs ≡ ys)
with_again s t xs ys e =
    let one = tails (shape_numbers s).0 (shape_numbers t).0 ((shape_numbers s).1 ∷ (shape_numbers s).2 ∷ xs) ((shape_numbers t).1 ∷ (shape_numbers t).2 ∷ ys) e in
    let two = tails (shape_numbers s).1 (shape_numbers t).1 ((shape_numbers s).2 ∷ xs) ((shape_numbers t).2 ∷ ys) one.1 in
    let three = tails (shape_numbers s).2 (shape_numbers t).2 xs ys two.1 in
    (shape_again s t one.0 two.0 three.0, three.1)

function_again : (f g : CostFn) → numbers_of f ≡ numbers_of g → f ≡ g
function_again f g e =
    let one = with_again f.runtime g.runtime (with_shape f.read_count (with_shape f.read_length (with_shape f.write_count (with_shape f.write_length (0 ∷ []))))) (with_shape g.read_count (with_shape g.read_length (with_shape g.write_count (with_shape g.write_length (0 ∷ []))))) e in
    let two = with_again f.read_count g.read_count (with_shape f.read_length (with_shape f.write_count (with_shape f.write_length (0 ∷ [])))) (with_shape g.read_length (with_shape g.write_count (with_shape g.write_length (0 ∷ [])))) one.1 in
    let three = with_again f.read_length g.read_length (with_shape f.write_count (with_shape f.write_length (0 ∷ []))) (with_shape g.write_count (with_shape g.write_length (0 ∷ []))) two.1 in
    let four = with_again f.write_count g.write_count (with_shape f.write_length (0 ∷ [])) (with_shape g.write_length (0 ∷ [])) three.1 in
    let five = with_again f.write_length g.write_length (0 ∷ []) (0 ∷ []) four.1 in
    λ i. record { runtime = one.0 i; read_count = two.0 i; read_length = three.0 i; write_count = four.0 i; write_length = five.0 i }

all_again : (a b : List CostFn) → map numbers_of a ≡ map numbers_of b → a ≡ b
all_again [] [] e = refl
all_again [] (g ∷ b) e = absurd cc
all_again (f ∷ a) [] e = absurd cc
all_again (f ∷ a) (g ∷ b) e =
    let both = tails (numbers_of f) (numbers_of g) (map numbers_of a) (map numbers_of b) e in
    λ i. function_again f g both.0 i ∷ all_again a b both.1 i

pub same_decides : (a b : List CostFn) → Decides (is_same a b) (a ≡ b)
same_decides a b =
    let numbers = pointwise_decides bytes_decides (map numbers_of a) (map numbers_of b) in
    (λ h. all_again a b (numbers.0 h), λ e. numbers.1 (ap (map numbers_of) e))
