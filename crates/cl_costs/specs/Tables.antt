-- Cost tables: the cost functions of all names, in the order of the names.
use Rattle.std.specs.Prelude.{ℕ, List, map, unwrap_or}
use Rattle.std.specs.List.{slice_get}
use Rattle.cl_shapes.specs.Names.{cost_names, unit_function}
use Rattle.cl_shapes.specs.declared.function.CostFn.{CostFn}
use Rattle.cl_shapes.specs.declared.name.CostName.{CostName}
use Rattle.cl_shapes.specs.declared.name.CostName.TheVariants.{Literal, Lookup, Context, Control, Call, Bind, Arith, Compare, Hash, Wrap, Make, Take, Scan, Iterate, ReadVar, WriteVar, ReadMap, WriteMap, ReadToken, WriteToken, Event, ContractCall, Deploy, Define}

-- the place of a name among the names
abbrev pub place_of : CostName → ℕ
place_of Literal = 0
place_of Lookup = 1
place_of Context = 2
place_of Control = 3
place_of Call = 4
place_of Bind = 5
place_of Arith = 6
place_of Compare = 7
place_of Hash = 8
place_of Wrap = 9
place_of Make = 10
place_of Take = 11
place_of Scan = 12
place_of Iterate = 13
place_of ReadVar = 14
place_of WriteVar = 15
place_of ReadMap = 16
place_of WriteMap = 17
place_of ReadToken = 18
place_of WriteToken = 19
place_of Event = 20
place_of ContractCall = 21
place_of Deploy = 22
place_of Define = 23

-- the function of a name; of a list that is too short to have it, the unit table's
unfoldable pub function_of : List CostFn → CostName → CostFn
function_of table name = unwrap_or (slice_get table (place_of name)) (unit_function name)

unfoldable pub unit_table : List CostFn
unit_table = map unit_function cost_names
