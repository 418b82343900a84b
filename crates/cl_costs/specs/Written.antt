-- The JSON objects of cost tables.
use Rattle.std.specs.Prelude.{ℕ, ◌<◌, ◌^◌, List, [], ◌∷◌, codes}
use Rattle.serde_json.specs.Data.{Data, unsigned, number, string, array, object, no_items, item, Members, no_members, put}
use Rattle.cl_shapes.specs.Costs.{dimension_name}
use Rattle.cl_shapes.specs.Names.{cost_name, cost_names}
use Rattle.cl_shapes.specs.declared.cost.Dimension.TheVariants.{Runtime, ReadCount, ReadLength, WriteCount, WriteLength}
use Rattle.cl_shapes.specs.declared.function.Shape.{Shape}
use Rattle.cl_shapes.specs.declared.function.Shape.TheVariants.{Constant, Linear, Logn, Nlogn}
use Rattle.cl_shapes.specs.declared.function.CostFn.{CostFn}
use Rattle.cl_shapes.specs.declared.name.CostName.{CostName}

abbrev pub IsInRange : Shape → Type 0
IsInRange (Constant b) = b < 2 ^ 32
IsInRange (Linear a b) = (a < 2 ^ 32) × (b < 2 ^ 32)
IsInRange (Logn a b) = (a < 2 ^ 32) × (b < 2 ^ 32)
IsInRange (Nlogn a b) = (a < 2 ^ 32) × (b < 2 ^ 32)

pub record HasCoefficientsInRange (f : CostFn) : Type 0 where
  pub runtime : IsInRange f.runtime
  pub read_count : IsInRange f.read_count
  pub read_length : IsInRange f.read_length
  pub write_count : IsInRange f.write_count
  pub write_length : IsInRange f.write_length

-- a name and two coefficients
abbrev pub written_pair : List ℕ → ℕ → ℕ → Data
written_pair name a b = array (item (string name) (item (number (unsigned a)) (item (number (unsigned b)) no_items)))

abbrev pub written_shape : Shape → Data
written_shape (Constant b) = array (item (string (codes "constant")) (item (number (unsigned b)) no_items))
written_shape (Linear a b) = written_pair (codes "linear") a b
written_shape (Logn a b) = written_pair (codes "logn") a b
written_shape (Nlogn a b) = written_pair (codes "nlogn") a b

-- an object of the five shapes; `put` keeps the names of an object in order
abbrev pub written_shapes : Data → Data → Data → Data → Data → Data
written_shapes r rc rl wc wl =
    object (put (dimension_name Runtime) r (put (dimension_name ReadCount) rc (put (dimension_name ReadLength) rl
    (put (dimension_name WriteCount) wc (put (dimension_name WriteLength) wl no_members)))))

abbrev pub written_function : CostFn → Data
written_function f =
    written_shapes (written_shape f.runtime) (written_shape f.read_count) (written_shape f.read_length) (written_shape f.write_count) (written_shape f.write_length)

abbrev pub written_names : (CostName → Data) → List CostName → Members
written_names value [] = no_members
written_names value (name ∷ names) = put (cost_name name) (value name) (written_names value names)

abbrev pub written_table : (CostName → CostFn) → Data
written_table f = object (written_names (λ name. written_function (f name)) cost_names)
