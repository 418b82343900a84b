-- What table of costs the bytes of a cost file are, or their first fault.
use Rattle.std.specs.Prelude.{ℕ, Bool, true, false, List, [], ◌∷◌, map, find, Option, Some, None, option_map, Result, Ok, Err}
use Rattle.std.specs.Option.{option_map_or, option_or, ok_or}
use Rattle.std.specs.Str.{chars}
use Rattle.serde_json.specs.Data.{Data}
use Rattle.serde_json.specs.Find.{get, as_object}
use Rattle.cl_json.specs.Json.{json_of, unknown_member}
use Rattle.cl_shapes.specs.Costs.{dimensions, dimension_name}
use Rattle.cl_shapes.specs.Names.{cost_name, cost_names}
use Rattle.cl_shapes.specs.declared.cost.Dimension.{Dimension}
use Rattle.cl_shapes.specs.declared.cost.Dimension.TheVariants.{Runtime, ReadCount, ReadLength, WriteCount, WriteLength}
use Rattle.cl_shapes.specs.declared.function.Shape.{Shape}
use Rattle.cl_shapes.specs.declared.function.Shape.TheVariants.{Constant}
use Rattle.cl_shapes.specs.declared.function.CostFn.{CostFn}
use Rattle.cl_shapes.specs.declared.name.CostName.{CostName}
use Rattle.cl_costs.specs.Shapes.{shape_of}
use Rattle.cl_costs.specs.declared.shape.ShapeFault.{ShapeFault}
use Rattle.cl_costs.specs.declared.shape.ShapeFault.TheVariants.{NoShape, TooLarge}
use Rattle.cl_costs.specs.declared.refusal.CostRefusal.{CostRefusal}
use Rattle.cl_costs.specs.declared.refusal.CostRefusal.TheVariants.{NotJson, Missing, BadShape, TooBig, Unknown}

-- ---- one cost function

-- what stands at a dimension; one that isn't there costs nothing
abbrev pub shape_at : Data → Dimension → Result Shape ShapeFault
shape_at d dimension = option_map_or shape_of (get (dimension_name dimension) d) (Ok (Constant 0))

abbrev pub is_no_shape : Result Shape ShapeFault → Bool
is_no_shape (Ok shape) = false
is_no_shape (Err NoShape) = true
is_no_shape (Err TooLarge) = false

-- the first dimension with something else than a shape
abbrev pub without_shape : Data → Option Dimension
without_shape d = find (λ dimension. is_no_shape (shape_at d dimension)) dimensions

-- the dimension of a bad shape: the first without a shape, or else the least unknown name. What is no object has no runtime
abbrev pub bad_dimension : Data → Option (List ℕ)
bad_dimension d =
    option_map_or (λ members. option_or (option_map dimension_name (without_shape d)) (unknown_member (map dimension_name dimensions) members))
    (as_object d) (Some (dimension_name Runtime))

abbrev pub function_with : Result Shape ShapeFault → Result Shape ShapeFault → Result Shape ShapeFault → Result Shape ShapeFault → Result Shape ShapeFault → Option CostFn
function_with (Ok r) (Ok rc) (Ok rl) (Ok wc) (Ok wl) = Some (record { runtime = r; read_count = rc; read_length = rl; write_count = wc; write_length = wl })
function_with r rc rl wc wl = None

-- the function, where each dimension has a shape with coefficients in range
unfoldable pub all_shapes : Data → Option CostFn
all_shapes d = function_with (shape_at d Runtime) (shape_at d ReadCount) (shape_at d ReadLength) (shape_at d WriteCount) (shape_at d WriteLength)

-- the function that a name's value is. Where no dimension is bad, some coefficient may be too large
unfoldable pub function_in : CostName → Data → Result CostFn CostRefusal
function_in name d =
    option_map_or (λ dimension. Err (BadShape (cost_name name) (chars dimension))) (bad_dimension d)
    (ok_or (all_shapes d) (TooBig (cost_name name)))

-- ---- the table

-- the function at a name's member
unfoldable pub function_at : CostName → Data → Result CostFn CostRefusal
function_at name d = option_map_or (function_in name) (get (cost_name name) d) (Err (Missing (cost_name name)))

abbrev pub and_more : Result CostFn CostRefusal → Result (List CostFn) CostRefusal → Result (List CostFn) CostRefusal
and_more (Err r) more = Err r
and_more (Ok f) (Err r) = Err r
and_more (Ok f) (Ok fs) = Ok (f ∷ fs)

-- the functions of the names, or the fault of the first name that has one
unfoldable pub functions_at : List CostName → Data → Result (List CostFn) CostRefusal
functions_at [] d = Ok []
functions_at (name ∷ names) d = and_more (function_at name d) (functions_at names d)

unfoldable pub table_in : Data → Result (List CostFn) CostRefusal
table_in d =
    option_map_or (λ members. option_map_or (λ name. Err (Unknown (chars name))) (unknown_member (map cost_name cost_names) members) (functions_at cost_names d))
    (as_object d) (Err NotJson)

-- the table of a cost file, in the order of the names
abbrev pub table_of : List ℕ → Result (List CostFn) CostRefusal
table_of bytes = option_map_or table_in (json_of bytes) (Err NotJson)
