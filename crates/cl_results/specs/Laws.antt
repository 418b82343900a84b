-- Each entry has a result, and each file has results.
use Rattle.std.specs.Prelude.{◌≡◌, ◌≢◌, ℕ, List, Some, Ok}
use Rattle.std.specs.declared.cmp.Ordering.TheVariants.{Less}
use Rattle.cl_costs.specs.Schedules.{ScheduleSeen}
use Rattle.cl_values.specs.Tree.{Tree}
use Rattle.cl_values.specs.Valid.{IsVal}
use Rattle.cl_text.specs.Parsed.{Stands, Parses}
use Rattle.cl_maps.specs.Maps.{key_cmp}
use Rattle.cl_events.specs.State.{State}
use Rattle.cl_events.specs.declared.event.Event.{Event}
use Rattle.cl_tables.specs.declared.row.StateRow.{StateRow}
use Rattle.cl_tables.specs.StateRows.{IsRow}
use Rattle.cl_file.specs.declared.entry.Entry.{Entry}
use Rattle.cl_file.specs.Files.{FileSeen, FileReads}
use Rattle.cl_tx.specs.declared.outcome.TxResult.{TxResult}
use Rattle.cl_tx.specs.Nodes.{NodeSeen, Stepped}
use Rattle.cl_tx.specs.Step.{Steps, Runs, Commits}
use Rattle.cl_node_sound.specs.Sound.{IsSoundNode, HasParts, FileHasParts}
use Rattle.cl_lines.specs.RowLines.{row_line}
use Rattle.cl_lines.specs.StateLines.{IsLine, IsStateText}
use Rattle.cl_root.specs.declared.side.Side.{Side}
use Rattle.cl_root.specs.RowBytes.{key_bytes}
use Rattle.cl_root.specs.HashTree.{IsRoot}
use Rattle.cl_root.specs.Paths.{IsPath}

-- an entry makes something of a sound node
abbrev pub EachSteps : Type 0
EachSteps = (schedule : ScheduleSeen) (node : NodeSeen) (entry : Entry) → HasParts entry → IsSoundNode node → (s : Stepped) × Steps schedule node entry s

-- the entries of a file have results, and there is a node after them
abbrev pub EachRuns : Type 0
EachRuns = (schedule : ScheduleSeen) (file : FileSeen) → FileHasParts file → (results : List TxResult) × (after : NodeSeen) × Runs schedule file results after

-- and so they commit events
abbrev pub EachCommits : Type 0
EachCommits = (schedule : ScheduleSeen) (file : FileSeen) → FileHasParts file → (events : List Event) × Commits schedule file events

-- the value that a text spells is within the limits
abbrev pub TextsHaveValues : Type 0
TextsHaveValues = (text : List ℕ) (v : Tree) → Parses text (Stands v) → IsVal v

-- the principals, values and heights of a file that is read are within the limits
abbrev pub FilesHaveParts : Type 0
FilesHaveParts = (bytes : List ℕ) (file : FileSeen) → FileReads bytes (Ok file) → FileHasParts file

-- the state of a sound node has a text
abbrev pub EachHasText : Type 0
EachHasText = (node : NodeSeen) → IsSoundNode node → (text : List ℕ) × IsStateText node.state text

-- and a root
abbrev pub EachHasRoot : Type 0
EachHasRoot = (node : NodeSeen) → IsSoundNode node → (root : List ℕ) × IsRoot root node.state

-- of the rows of a state with this line, that with the least key bytes, and its path to the root
pub record HasRowOf (s : State) (line : List ℕ) : Type 0 where
  pub row : StateRow
  pub there : IsRow s row
  pub line_is : row_line row ≡ line
  pub least : (other : StateRow) → IsRow s other → row_line other ≡ line → key_cmp (key_bytes other) (key_bytes row) ≢ Less
  pub path : List Side
  pub is_path : IsPath (Some path) (key_bytes row) s

-- each of its lines has such a row
abbrev pub EachLineHasRow : Type 0
EachLineHasRow = (node : NodeSeen) → IsSoundNode node → (line : List ℕ) → IsLine node.state line → HasRowOf node.state line
