-- What a JSON value is as a shape.
use Rattle.std.specs.Prelude.{ℕ, ◌^◌, nat_lt, List, [], ◌∷◌, codes, Option, Some, None, option_map, option_and_then, Result, Ok, Err, if◌then◌else◌}
use Rattle.std.specs.List.{list_all}
use Rattle.std.specs.Option.{option_map_or}
use Rattle.std.specs.Str.{bytes_eq}
use Rattle.serde_json.specs.Data.{Data, Items, no_items, item}
use Rattle.serde_json.specs.Find.{as_str, as_array, as_number, as_u64}
use Rattle.cl_shapes.specs.declared.function.Shape.{Shape}
use Rattle.cl_shapes.specs.declared.function.Shape.TheVariants.{Constant, Linear, Logn, Nlogn}
use Rattle.cl_costs.specs.declared.shape.ShapeFault.{ShapeFault}
use Rattle.cl_costs.specs.declared.shape.ShapeFault.TheVariants.{NoShape, TooLarge}

-- a whole number from 0 to 2^64-1, written without a sign, a fraction or an exponent
abbrev pub whole : Data → Option ℕ
whole d = option_and_then as_u64 (as_number d)

-- the numbers, where each item is a whole one
abbrev pub wholes : Items → Option (List ℕ)
wholes no_items = Some []
wholes (item d ds) = option_and_then (λ n. option_map (λ ns. n ∷ ns) (wholes ds)) (whole d)

-- the shape with this name and these coefficients, however large
abbrev pub shape_named : List ℕ → List ℕ → Option Shape
shape_named name (b ∷ []) = if bytes_eq name (codes "constant") then Some (Constant b) else None
shape_named name (a ∷ b ∷ []) =
    if bytes_eq name (codes "linear") then Some (Linear a b)
    else (if bytes_eq name (codes "logn") then Some (Logn a b)
    else (if bytes_eq name (codes "nlogn") then Some (Nlogn a b) else None))
shape_named name numbers = None

-- a shape with these coefficients, if they are below 2^32
abbrev pub within_range : List ℕ → Shape → Result Shape ShapeFault
within_range numbers shape = if list_all (λ n. nat_lt n (2 ^ 32)) numbers then Ok shape else Err TooLarge

abbrev pub shape_with : List ℕ → List ℕ → Result Shape ShapeFault
shape_with name numbers = option_map_or (within_range numbers) (shape_named name numbers) (Err NoShape)

-- a name, and whole numbers behind it
abbrev pub shape_in : Items → Result Shape ShapeFault
shape_in no_items = Err NoShape
shape_in (item d ds) = option_map_or (λ name. option_map_or (shape_with name) (wholes ds) (Err NoShape)) (as_str d) (Err NoShape)

abbrev pub shape_of : Data → Result Shape ShapeFault
shape_of d = option_map_or shape_in (as_array d) (Err NoShape)
