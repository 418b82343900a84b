-- The lines of rows.
use Rattle.std.specs.Prelude.{ℕ, List, [], ◌++◌, Option, None, Some, codes}
use Rattle.cl_c32.specs.declared.principal.Principal.{Principal}
use Rattle.cl_values.specs.Tree.{Tree}
use Rattle.cl_tables.specs.declared.row.RowKind.{RowKind}
use Rattle.cl_tables.specs.declared.row.RowKind.TheVariants.{Variable, MapEntry, Balance, Supply, Owner, StxBalance}
use Rattle.cl_tables.specs.declared.row.StateRow.{StateRow}
use Rattle.cl_lines.specs.Events.{name_text, value_text, who_text}

-- the word of a row
unfoldable pub row_word : RowKind → List ℕ
row_word Variable = codes "var"
row_word MapEntry = codes "map"
row_word Balance = codes "ft"
row_word Supply = codes "supply"
row_word Owner = codes "nft"
row_word StxBalance = codes "stx"

-- a part of a row, where it has it, behind a space
abbrev pub contract_part : Option Principal → List ℕ
contract_part None = []
contract_part (Some contract) = who_text contract

abbrev pub name_part : Option (List ℕ) → List ℕ
name_part None = []
name_part (Some name) = name_text name

abbrev pub key_part : Option Tree → List ℕ
key_part None = []
key_part (Some key) = value_text key

-- the line of a row, without its LF
unfoldable pub row_line : StateRow → List ℕ
row_line row = row_word row.kind ++ (contract_part row.contract ++ (name_part row.name ++ (key_part row.key ++ value_text row.value)))
