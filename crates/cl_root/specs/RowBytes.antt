-- The bytes of rows: of the key, which no other row of a state has, and of the value.
use Rattle.std.specs.Prelude.{ℕ, List, [], ◌∷◌, ◌++◌, Option, None, Some}
use Rattle.cl_c32.specs.declared.principal.Principal.{Principal}
use Rattle.cl_values.specs.Tree.{Tree}
use Rattle.cl_values.specs.Wire.{wire, name_wire}
use Rattle.cl_events.specs.State.{holder}
use Rattle.cl_tables.specs.declared.row.RowKind.{RowKind}
use Rattle.cl_tables.specs.declared.row.RowKind.TheVariants.{Variable, MapEntry, Balance, Supply, Owner, StxBalance}
use Rattle.cl_tables.specs.declared.row.StateRow.{StateRow}

abbrev pub kind_byte : RowKind → ℕ
kind_byte Variable = 0
kind_byte MapEntry = 1
kind_byte Balance = 2
kind_byte Supply = 3
kind_byte Owner = 4
kind_byte StxBalance = 5

-- a part of a row, where it has it
abbrev pub contract_part : Option Principal → List ℕ
contract_part None = []
contract_part (Some contract) = holder contract

abbrev pub name_part : Option (List ℕ) → List ℕ
name_part None = []
name_part (Some name) = name_wire name

abbrev pub key_part : Option Tree → List ℕ
key_part None = []
key_part (Some key) = wire key

-- the kind, and behind it the contract, the name and the key
unfoldable pub key_bytes : StateRow → List ℕ
key_bytes row = kind_byte row.kind ∷ (contract_part row.contract ++ (name_part row.name ++ key_part row.key))

abbrev pub value_bytes : StateRow → List ℕ
value_bytes row = wire row.value
