-- The function of each name of a table that was read.
use Rattle.std.proofs.Common.{◌≡◌, ℕ, ◌<◌, zero, suc, List, [], ◌∷◌, length, get_or, map, Option, Some, None, Result, Ok, Err, refl, sym, ap, ◌∙◌, arith}
use Rattle.std.proofs.lemmas.Option.{slice_get_within, get_or_from_slice_get, unwrap_or-slice_get}
use Rattle.std.specs.List.{slice_get}
use Rattle.std.specs.Option.{option_map_or}
use Rattle.std.specs.Str.{chars}
use Rattle.serde_json.specs.Data.{Data, Members}
use Rattle.serde_json.specs.Find.{as_object}
use Rattle.cl_json.specs.Json.{json_of, unknown_member}
use Rattle.cl_shapes.specs.Names.{cost_name, cost_names, unit_function}
use Rattle.cl_shapes.specs.declared.function.CostFn.{CostFn}
use Rattle.cl_shapes.specs.declared.name.CostName.{CostName}
use Rattle.cl_shapes.specs.declared.name.CostName.TheVariants.{Literal}
use Rattle.cl_costs.specs.CostFile.{function_at, functions_at, and_more, table_in, table_of}
use Rattle.cl_costs.specs.Tables.{place_of, function_of}
use Rattle.cl_costs.specs.declared.refusal.CostRefusal.{CostRefusal}
use Rattle.cl_costs.specs.declared.refusal.CostRefusal.TheVariants.{NotJson, Unknown}

abbrev Read : Type 0 → Type 0
Read A = Result A CostRefusal

none_unknown : (unknown : Option (List ℕ)) (r : Read (List CostFn)) (table : List CostFn) → option_map_or (λ name. Err (Unknown (chars name))) unknown r ≡ Ok table → r ≡ Ok table
none_unknown None r table e = e
none_unknown (Some name) r table e = cc

is_object : (members : Option Members) (unknown : Members → Option (List ℕ)) (r : Read (List CostFn)) (table : List CostFn)
    → option_map_or (λ ms. option_map_or (λ name. Err (Unknown (chars name))) (unknown ms) r) members (Err NotJson) ≡ Ok table → r ≡ Ok table
is_object None unknown r table e = cc
is_object (Some ms) unknown r table e = none_unknown (unknown ms) r table e

functions_of : (d : Data) (table : List CostFn) → table_in d ≡ Ok table → functions_at cost_names d ≡ Ok table
unfolding table_in
functions_of d table e = is_object (as_object d) (unknown_member (map cost_name cost_names)) (functions_at cost_names d) table e

both : (r : Read CostFn) (more : Read (List CostFn)) (table : List CostFn) → and_more r more ≡ Ok table
    → (f : CostFn) × (fs : List CostFn) × (r ≡ Ok f) × (more ≡ Ok fs) × (table ≡ f ∷ fs)
both (Err x) more table e = cc
both (Ok f) (Err x) table e = cc
both (Ok f) (Ok fs) table e = (f, fs, refl, refl, cc)

at_place : (d : Data) (names : List CostName) (table : List CostFn) → functions_at names d ≡ Ok table
    → (i : ℕ) (name : CostName) (f : CostFn) → i < length names → function_at (get_or names i name) d ≡ Ok (get_or table i f)
unfolding functions_at
at_place d [] table e i name f below = absurd (omega arith)
at_place d (first ∷ names) table e zero name f below =
    let parts = both (function_at first d) (functions_at names d) table e in
    parts.2 ∙ ap (λ xs. Ok (get_or xs 0 f)) (sym parts.4)
at_place d (first ∷ names) table e (suc i) name f below =
    let parts = both (function_at first d) (functions_at names d) table e in
    at_place d names parts.1 parts.3 i name f (omega arith) ∙ ap (λ xs. Ok (get_or xs (suc i) f)) (sym parts.4)

placed : (name : CostName) → slice_get cost_names (place_of name) ≡ Some name
placed Literal = refl
placed name = refl

at_name : (d : Data) (table : List CostFn) → functions_at cost_names d ≡ Ok table → (name : CostName) → function_at name d ≡ Ok (function_of table name)
unfolding function_of
at_name d table e name =
    ap (λ n. function_at n d) (sym (get_or_from_slice_get cost_names (place_of name) name name (placed name)))
    ∙ at_place d cost_names table e (place_of name) name (unit_function name) (slice_get_within cost_names (place_of name) name (placed name))
    ∙ ap Ok (sym (unwrap_or-slice_get table (place_of name) (unit_function name)))

pub each_name : (bytes : List ℕ) (d : Data) (table : List CostFn) → json_of bytes ≡ Some d → table_of bytes ≡ Ok table
    → (name : CostName) → function_at name d ≡ Ok (function_of table name)
each_name bytes d table is_json e name = at_name d table (functions_of d table (sym (ap (λ o. option_map_or table_in o (Err NotJson)) is_json) ∙ e)) name
