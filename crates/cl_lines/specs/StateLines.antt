-- The lines of a state.
use Rattle.std.specs.Prelude.{◌≡◌, ℕ, List, ◌++◌, Contains, codes}
use Rattle.std.specs.List.{flat_map}
use Rattle.std.specs.List.Sorted.{IsStrictlySortedBy}
use Rattle.cl_maps.specs.Maps.{key_cmp}
use Rattle.cl_events.specs.State.{State}
use Rattle.cl_tables.specs.declared.row.StateRow.{StateRow}
use Rattle.cl_tables.specs.StateRows.{IsRow}
use Rattle.cl_lines.specs.RowLines.{row_line}

-- a line, without its LF: that of a row of the state
abbrev pub IsLine : State → List ℕ → Type 0
IsLine s line = (row : StateRow) × IsRow s row × (line ≡ row_line row)

-- lines, each followed by an LF
abbrev pub with_line_feeds : List (List ℕ) → List ℕ
with_line_feeds lines = flat_map (λ line. line ++ codes "\n") lines

-- the text of a state: just its lines, rising bytewise, each followed by an LF
pub record IsStateText (s : State) (text : List ℕ) : Type 0 where
  pub lines : List (List ℕ)
  pub rising : IsStrictlySortedBy key_cmp lines
  pub sound : (line : List ℕ) → Contains lines line → IsLine s line
  pub whole : (line : List ℕ) → IsLine s line → Contains lines line
  pub ends : text ≡ with_line_feeds lines
