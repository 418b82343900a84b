-- The epochs of a file of version 2.
use Rattle.std.specs.Prelude.{ℕ, nat_lt, List, [], ◌∷◌, codes, Option, Some, None, option_and_then, Result, Ok, Err, if◌then◌else◌}
use Rattle.serde_json.specs.Data.{Data}
use Rattle.cl_shapes.specs.declared.function.CostFn.{CostFn}
use Rattle.cl_costs.specs.CostFile.{table_in}
use Rattle.cl_costs.specs.Schedules.{Epoch}
use Rattle.cl_costs.specs.declared.refusal.CostRefusal.{CostRefusal}
use Rattle.cl_file.specs.Paths.{Read, and_then}
use Rattle.cl_file.specs.Objects.{Values, plain, needed, only}
use Rattle.cl_file.specs.Kinds.{whole}
use Rattle.cl_file.specs.Names.{names_of}
use Rattle.cl_file.specs.declared.names.Object.TheVariants as object

-- the height of the last epoch, and without one this height
abbrev pub last_height : ℕ → List Epoch → ℕ
last_height height [] = height
last_height height (e ∷ es) = last_height e.0 es

abbrev pub if_above : ℕ → ℕ → Option ℕ
if_above height n = if nat_lt height n then Some n else None

-- a height above another
abbrev pub height_above : ℕ → Data → Option ℕ
height_above height d = option_and_then (if_above height) (whole d)

abbrev pub found_table : Result (List CostFn) CostRefusal → Option (List CostFn)
found_table (Ok table) = Some table
found_table (Err refusal) = None

-- a table of costs
abbrev pub costs : Data → Option (List CostFn)
costs d = found_table (table_in d)

-- an epoch that begins above a height
unfoldable pub epoch_above : Values → ℕ → List ℕ → Data → Read Epoch
epoch_above values height path d =
    and_then (only path (names_of object.Epoch) d) (λ _.
    and_then (needed (plain (height_above height)) values path (codes "height") d) (λ begins.
    and_then (needed (plain costs) values path (codes "costs") d) (λ table.
    Ok (begins, table))))

-- an epoch behind those that were read; the first begins above 0
abbrev pub next_epoch : Values → List Epoch → List ℕ → Data → Read Epoch
next_epoch values done path d = epoch_above values (last_height 0 done) path d
