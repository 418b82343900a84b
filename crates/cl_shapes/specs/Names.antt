-- The names of what is charged for, in the order of the cost file, and the unit table.
use Rattle.std.specs.Prelude.{ℕ, List, [], ◌∷◌, codes}
use Rattle.cl_shapes.specs.Functions.{Constant, Linear, CostFn}
pub use Rattle.cl_shapes.specs.declared.name.CostName.{CostName}
pub use Rattle.cl_shapes.specs.declared.name.CostName.TheVariants.{Literal, Lookup, Context, Control, Call, Bind, Arith, Compare, Hash, Wrap, Make, Take, Scan, Iterate, ReadVar, WriteVar, ReadMap, WriteMap, ReadToken, WriteToken, Event, ContractCall, Deploy, Define}

-- a cost function for each name
abbrev pub CostTable : Type 0
CostTable = CostName → CostFn

abbrev pub cost_names : List CostName
cost_names =
    Literal ∷ Lookup ∷ Context ∷ Control ∷ Call ∷ Bind ∷ Arith ∷ Compare ∷ Hash ∷ Wrap ∷ Make ∷ Take ∷ Scan ∷ Iterate
    ∷ ReadVar ∷ WriteVar ∷ ReadMap ∷ WriteMap ∷ ReadToken ∷ WriteToken ∷ Event ∷ ContractCall ∷ Deploy ∷ Define ∷ []

abbrev pub cost_name : CostName → List ℕ
cost_name Literal = codes "literal"
cost_name Lookup = codes "lookup"
cost_name Context = codes "context"
cost_name Control = codes "control"
cost_name Call = codes "call"
cost_name Bind = codes "bind"
cost_name Arith = codes "arith"
cost_name Compare = codes "compare"
cost_name Hash = codes "hash"
cost_name Wrap = codes "wrap"
cost_name Make = codes "make"
cost_name Take = codes "take"
cost_name Scan = codes "scan"
cost_name Iterate = codes "iterate"
cost_name ReadVar = codes "read_var"
cost_name WriteVar = codes "write_var"
cost_name ReadMap = codes "read_map"
cost_name WriteMap = codes "write_map"
cost_name ReadToken = codes "read_token"
cost_name WriteToken = codes "write_token"
cost_name Event = codes "event"
cost_name ContractCall = codes "contract_call"
cost_name Deploy = codes "deploy"
cost_name Define = codes "define"

-- one unit of runtime
abbrev pub plain_unit : CostFn
plain_unit = record { runtime = Constant 1; read_count = Constant 0; read_length = Constant 0; write_count = Constant 0; write_length = Constant 0 }

-- besides, one read and its length
abbrev pub reading_unit : CostFn
reading_unit = record { runtime = Constant 1; read_count = Constant 1; read_length = Linear 1 0; write_count = Constant 0; write_length = Constant 0 }

-- besides, one write and its length
abbrev pub writing_unit : CostFn
writing_unit = record { runtime = Constant 1; read_count = Constant 0; read_length = Constant 0; write_count = Constant 1; write_length = Linear 1 0 }

-- the cost function of a name in the unit table
abbrev pub unit_function : CostName → CostFn
unit_function ReadVar = reading_unit
unit_function ReadMap = reading_unit
unit_function ReadToken = reading_unit
unit_function ContractCall = reading_unit
unit_function WriteVar = writing_unit
unit_function WriteMap = writing_unit
unit_function WriteToken = writing_unit
unit_function Deploy = writing_unit
unit_function Define = writing_unit
unit_function name = plain_unit
