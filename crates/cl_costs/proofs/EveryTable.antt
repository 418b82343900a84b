-- A table that was written is read again.
use Rattle.std.proofs.Common.{◌≡◌, ◌^◌, List, [], ◌∷◌, map, Some, Ok, refl, lt-ltb}
use Rattle.serde_json.specs.Data.{Data}
use Rattle.serde_json.specs.Find.{get}
use Rattle.cl_shapes.specs.Names.{cost_name, cost_names}
use Rattle.cl_shapes.specs.declared.function.Shape.{Shape}
use Rattle.cl_shapes.specs.declared.function.Shape.TheVariants.{Constant, Linear, Logn, Nlogn}
use Rattle.cl_shapes.specs.declared.function.CostFn.{CostFn}
use Rattle.cl_shapes.specs.declared.name.CostName.{CostName}
use Rattle.cl_shapes.specs.declared.name.CostName.TheVariants.{Literal}
use Rattle.cl_costs.specs.Shapes.{shape_of}
use Rattle.cl_costs.specs.CostFile.{all_shapes, function_in, function_at, functions_at, table_in}
use Rattle.cl_costs.specs.Written.{IsInRange, HasCoefficientsInRange, written_shape, written_shapes, written_function, written_table}

shape_again : (shape : Shape) → IsInRange shape → shape_of (written_shape shape) ≡ Ok shape
shape_again (Constant b) h = rw (lt-ltb b (2 ^ 32) h) refl
shape_again (Linear a b) h = rw (lt-ltb a (2 ^ 32) h.0, lt-ltb b (2 ^ 32) h.1) refl
shape_again (Logn a b) h = rw (lt-ltb a (2 ^ 32) h.0, lt-ltb b (2 ^ 32) h.1) refl
shape_again (Nlogn a b) h = rw (lt-ltb a (2 ^ 32) h.0, lt-ltb b (2 ^ 32) h.1) refl

shapes_again : (name : CostName) (r rc rl wc wl : Data) (f : CostFn) → shape_of r ≡ Ok f.runtime → shape_of rc ≡ Ok f.read_count → shape_of rl ≡ Ok f.read_length
    → shape_of wc ≡ Ok f.write_count → shape_of wl ≡ Ok f.write_length → function_in name (written_shapes r rc rl wc wl) ≡ Ok f
unfolding function_in all_shapes
shapes_again name r rc rl wc wl f a b c d e = rw (a, b, c, d, e) refl

function_again : (name : CostName) (f : CostFn) → HasCoefficientsInRange f → function_in name (written_function f) ≡ Ok f
function_again name f h =
    shapes_again name _ _ _ _ _ f (shape_again f.runtime h.runtime) (shape_again f.read_count h.read_count) (shape_again f.read_length h.read_length)
    (shape_again f.write_count h.write_count) (shape_again f.write_length h.write_length)

member_again : (f : CostName → CostFn) (name : CostName) → get (cost_name name) (written_table f) ≡ Some (written_function (f name))
member_again f Literal = refl
member_again f name = refl

at_again : (d value : Data) (name : CostName) (f : CostFn) → get (cost_name name) d ≡ Some value → function_in name value ≡ Ok f → function_at name d ≡ Ok f
unfolding function_at
at_again d value name f there is = rw there is

all_again : (f : CostName → CostFn) (d : Data) (names : List CostName) → ((name : CostName) → function_at name d ≡ Ok (f name)) → functions_at names d ≡ Ok (map f names)
unfolding functions_at
all_again f d [] each = refl
all_again f d (name ∷ names) each = rw (each name, all_again f d names each) refl

pub table_again : (f : CostName → CostFn) → ((name : CostName) → HasCoefficientsInRange (f name)) → table_in (written_table f) ≡ Ok (map f cost_names)
unfolding table_in
table_again f h =
    all_again f (written_table f) cost_names (λ name. at_again (written_table f) (written_function (f name)) name (f name) (member_again f name) (function_again name (f name) (h name)))
