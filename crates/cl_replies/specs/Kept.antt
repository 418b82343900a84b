-- What the code keeps while it makes a report: contracts that were checked, two entries that were run, and counts.
use Rattle.std.specs.Prelude.{◌≡◌, ◌≢◌, ◌≤◌, ℕ, Bool, true, false, List, [], ◌∷◌, ◌++◌, length, map, take, slice_get, codes, Option, option_map, Some, None, Vec}
use Rattle.std.specs.List.{All, flat_map}
use Rattle.std.specs.declared.cmp.Ordering.{Ordering}
use Rattle.std.specs.declared.cmp.Ordering.TheVariants.{Less, Equal, Greater}
use Rattle.std.specs.declared.alloc.Global.{Global}
use Rattle.cl_root.specs.declared.side.Side.{Side}
use Rattle.cl_c32.specs.declared.principal.Principal.{Principal}
use Rattle.cl_rules.specs.Context.{CostTable, Known, same_principal}
use Rattle.cl_rules.specs.FormRules.{Defined}
use Rattle.cl_rules.specs.Acceptance.{Accepted, Bounded, FirstBreakOf, NoneWrites, TypedAs, known_of}
use Rattle.cl_contracts.specs.declared.checked.Checked.{Checked}
use Rattle.cl_contracts.specs.declared.contract.Contract.{Contract}
use Rattle.cl_contracts.specs.Seen.{IsIndexed, contract_under, forms_of}
use Rattle.cl_contracts.specs.Standings.{AreStanding, StandsAfter}
use Rattle.cl_tx.specs.declared.outcome.Bounds.{Bounds}
use Rattle.cl_tx.specs.Seen.{SourceBreak}
use Rattle.cl_tx.specs.Step.{told_of}
use Rattle.cl_lines.specs.Checks.{accepted_lines, refused_line}
use Rattle.cl_words.specs.declared.sources.Source.{Source}
use Rattle.cl_words.specs.Seen.{text_in}
use Rattle.cl_bound.specs.Known.{AreBounds}
use Rattle.cl_c32.specs.Address.{AddressParts}
use Rattle.cl_words.specs.Sources.{are_sources, contract_at}
use Rattle.cl_replies.specs.declared.judge.Accepted.{Accepted as AcceptedContracts}
use Rattle.cl_replies.specs.declared.judge.Judged.{Judged}
use Rattle.cl_replies.specs.declared.judge.Judged.TheVariants as judged
use Rattle.cl_replies.specs.Checked.{IsReport}
use Rattle.cl_replies.specs.declared.call.Both.{Both}
use Rattle.cl_maps.specs.Maps.{key_cmp}
use Rattle.cl_events.specs.State.{State}
use Rattle.cl_tables.specs.declared.row.StateRow.{StateRow}
use Rattle.cl_file.specs.Files.{FileSeen}
use Rattle.cl_lines.specs.LineSets.{IsSetOf}
use Rattle.cl_lines.specs.RowLines.{row_line}
use Rattle.cl_root.specs.RowBytes.{key_bytes}
use Rattle.cl_root.specs.HashTree.{IsRoot}
use Rattle.cl_root.specs.Paths.{IsPath}
use Rattle.cl_entries.specs.declared.status.Status.TheVariants.{Done, BadWord}
use Rattle.cl_replies.specs.Reports.{file_of, hex_text, root_line, row_text, side_line, IsProved}
use Rattle.cl_costs.specs.Schedules.{ScheduleSeen, always}
use Rattle.cl_costs.specs.Tables.{unit_table}
use Rattle.cl_file.specs.declared.entry.Entry.{Entry}
use Rattle.cl_tx.specs.declared.outcome.TxResult.{TxResult}
use Rattle.cl_tx.specs.Nodes.{NodeSeen}
use Rattle.cl_tx.specs.Step.{Runs}
use Rattle.cl_node_sound.specs.Sound.{FileHasParts}
use Rattle.cl_nodes.specs.Seen.{Seen}
use Rattle.cl_workload.specs.Workload.{deployment as workload_deployment, number_after, calls}
use Rattle.cl_workload.specs.Summary.{Counts, counts_of}
use Rattle.cl_report.specs.Lines.{lines_of}
use Rattle.cl_entries.specs.declared.status.Reply.{Reply}
use Rattle.cl_entries.specs.Entries.{end_of, Reaches}

-- the deployed contracts, each under its principal
abbrev pub Contracts : Type 0
Contracts = List (Principal × Contract)

-- ---- one source

-- a contract with typed trees stands for a source that breaks no rule before the bounds
pub record IsChecked (contracts : Contracts) (source : Source) (c : Checked) : Type 0 where
  pub principal_is : c.principal ≡ source.principal
  pub version_is : c.version ≡ source.version
  pub size : c.source_length ≡ length source.text
  pub indexed : IsIndexed c
  pub found : (known : List Known) → AreStanding [] contracts known → (defined : Defined) × TypedAs known source.principal (text_in source) (forms_of c) c.order.items defined × NoneWrites known source.principal (forms_of c) × StandsAfter known c defined

-- its bounds are within the limit, and these
pub record IsBounded (table : CostTable) (contracts : Contracts) (c : Checked) (bounds : Bounds) : Type 0 where
  pub within : (known : List Known) (defined : Defined) → AreStanding [] contracts known → StandsAfter known c defined → Bounded defined (forms_of c) table
  pub told : (known : List Known) (defined : Defined) → AreStanding [] contracts known → StandsAfter known c defined → (told_of table defined (forms_of c)).bounds ≡ Some bounds

-- one contract more stands behind the others, whatever the values of its constants
pub record IsKept (before : Contracts) (c : Checked) (after : Contracts) : Type 0 where
  pub contract : Contract
  pub is : contract.checked ≡ c
  pub behind : after ≡ before ++ (c.principal, contract) ∷ []

-- a source is accepted, with these lines; its contract stands behind the others
pub record IsAccepted (table : CostTable) (before : Contracts) (source : Source) (text : List ℕ) (after : Contracts) : Type 0 where
  pub contract : Contract
  pub behind : after ≡ before ++ (source.principal, contract) ∷ []
  pub found : (known : List Known) → AreStanding [] before known → (accepted : Accepted known source.principal table (text_in source))
      × (text ≡ accepted_lines source.principal (told_of table accepted.defined accepted.forms).bounds (told_of table accepted.defined accepted.forms).types)
      × AreStanding [] after (known ++ known_of source.principal (length source.text) accepted.defined ∷ [])

-- a source is refused, with this line
pub record IsRefused (table : CostTable) (before : Contracts) (source : Source) (text : List ℕ) : Type 0 where
  pub broken : SourceBreak
  pub first : (known : List Known) → AreStanding [] before known → FirstBreakOf known source.principal table (text_in source) broken.rule broken.span broken.names
  pub line : text ≡ refused_line source.principal broken

-- so a source is judged, and these contracts stand then
abbrev pub Judges : CostTable → Contracts → Source → Judged → Contracts → Type 0
Judges table before source (judged.Accepted text) after = IsAccepted table before source text.items after
Judges table before source (judged.Refused text) after = IsRefused table before source text.items

-- contracts with the bounds of their functions under a table
pub record Stand (table : CostTable) (accepted : AcceptedContracts) : Type 0 where
  pub known : AreBounds table accepted.deployed.contracts accepted.known

-- ---- one source after another

-- the sources are of the contracts of paths, whose names differ
pub record AreOfPaths (sources : List Source) : Type 0 where
  pub address : AddressParts
  pub paths : List (List ℕ)
  pub differ : are_sources paths ≡ true
  pub contracts : map (λ (source : Source). source.principal) sources ≡ map (contract_at address) paths

-- no source is of this contract
abbrev pub AreOthers : Principal → List Source → Type 0
AreOthers principal [] = Unit {0}
AreOthers principal (source ∷ sources) = (same_principal principal source.principal ≡ false) × AreOthers principal sources

-- no two sources are of one contract
abbrev pub AreApart : List Source → Type 0
AreApart [] = Unit {0}
AreApart (source ∷ sources) = AreOthers source.principal sources × AreApart sources

-- no source is of a contract that stands
abbrev pub AreNew : List Source → Contracts → Type 0
AreNew [] contracts = Unit {0}
AreNew (source ∷ sources) contracts = (contract_under source.principal contracts ≡ None) × AreNew sources contracts

-- a reply behind a text
abbrev pub behind : List ℕ → Reply → Reply
behind text reply = record { text = text ++ reply.text; status = reply.status }

-- all sources but the rest are accepted, with this text, and their contracts are these
pub record AcceptedSoFar (table : CostTable) (sources rest : List Source) (text : List ℕ) (contracts : Contracts) : Type 0 where
  pub known : List Known
  pub stand : AreStanding [] contracts known
  pub report : (reply : Reply) → IsReport table known rest reply → IsReport table [] sources (behind text reply)
  pub new : AreNew rest contracts
  pub apart : AreApart rest

-- ---- two entries

-- so they ended, and these are their lines
pub record AreBoth (schedule : ScheduleSeen) (first second : Entry) (both : Both) : Type 0 where
  pub deployed : TxResult
  pub called : TxResult
  pub after : NodeSeen
  pub parts : FileHasParts (file_of (first ∷ second ∷ []))
  pub runs : Runs schedule (file_of (first ∷ second ∷ [])) (deployed ∷ called ∷ []) after
  pub deployed_end : both.deployed.end ≡ end_of deployed.outcome
  pub called_end : both.called.end ≡ end_of called.outcome
  pub front : both.deployed.text.items ≡ lines_of 0 first deployed
  pub back : both.called.text.items ≡ lines_of 1 second called

-- ---- a workload

-- so many calls were run after the deployment: what was counted, the number that the last call was drawn by, and the node
pub record IsCounted (seed n : ℕ) (counts : Counts) (number : ℕ) (after : Seen) : Type 0 where
  pub results : List TxResult
  pub reaches : Reaches (always unit_table) [] (workload_deployment ∷ calls seed n) results after
  pub counted : counts ≡ counts_of results
  pub drawn : number ≡ number_after seed n

-- ---- words of `verify`

abbrev pub bytes_seen : Option (Vec ℕ Global) → Option (List ℕ)
bytes_seen bytes = option_map (λ b. b.items) bytes

-- what is added to a path: the sides, if all words spell them
abbrev pub AddsSides : Option (List Side) → Bool → List Side → List Side → Type 0
AddsSides (Some sides) all old new = (all ≡ true) × (new ≡ old ++ sides)
AddsSides None all old new = all ≡ false

-- ---- entries of a file whose results aren't kept

-- the node after so many entries
abbrev pub HasReached : ScheduleSeen → FileSeen → ℕ → Seen → Type 0
HasReached schedule file count n = (results : List TxResult) × Reaches schedule file.genesis (take count file.entries) results n

-- ---- the row of a numbered line

abbrev pub lines_of_rows : List StateRow → List (List ℕ)
lines_of_rows rows = map (λ row. row_line row) rows

-- the line with this number among the given ones, sorted and each once
pub record IsLineAt (given : List (List ℕ)) (number : ℕ) (line : Option (List ℕ)) : Type 0 where
  pub set : List (List ℕ)
  pub is_set : IsSetOf given set
  pub is : line ≡ slice_get set number

-- of rows with one line the place of one with the least key bytes, or that none has the line
abbrev pub IsLeastOf : List StateRow → List StateRow → List ℕ → Option ℕ → Type 0
IsLeastOf rows seen line None = All (λ r. row_line r ≢ line) seen
IsLeastOf rows seen line (Some place) =
    (row : StateRow) × (slice_get rows place ≡ Some row) × (row_line row ≡ line) × All (λ r. row_line r ≡ line → key_cmp (key_bytes r) (key_bytes row) ≢ Less) seen

abbrev pub is_less : Ordering → Bool
is_less Less = true
is_less Equal = false
is_less Greater = false

-- among rows the place of one whose line has this number among all lines, sorted and each once, with the least key bytes
pub record HasRowAt (rows : List StateRow) (number place : ℕ) : Type 0 where
  pub set : List (List ℕ)
  pub is_set : IsSetOf (lines_of_rows rows) set
  pub line : List ℕ
  pub is : slice_get set number ≡ Some line
  pub least : IsLeastOf rows rows line (Some place)

pub record HasFewLines (rows : List StateRow) (number : ℕ) : Type 0 where
  pub set : List (List ℕ)
  pub is_set : IsSetOf (lines_of_rows rows) set
  pub few : length set ≤ number

abbrev pub IsRowAt : List StateRow → ℕ → Option ℕ → Type 0
IsRowAt rows number None = HasFewLines rows number
IsRowAt rows number (Some place) = HasRowAt rows number place

-- ---- what is written of a root

abbrev pub row_text_of : List ℕ → List ℕ → List ℕ
row_text_of key value = codes "row " ++ (hex_text key ++ (codes " " ++ (hex_text value ++ codes "\n")))

-- the reply with a row and its path
pub record IsRowReply (state : State) (row : StateRow) (reply : Reply) : Type 0 where
  pub digest : List ℕ
  pub path : List Side
  pub is_root : IsRoot digest state
  pub is_path : IsPath (Some path) (key_bytes row) state
  pub is : reply ≡ record { text = root_line digest ++ (row_text row ++ flat_map side_line path); status = Done }

-- the reply where there is no row
pub record IsNoRowReply (state : State) (reply : Reply) : Type 0 where
  pub digest : List ℕ
  pub is_root : IsRoot digest state
  pub is : reply ≡ record { text = root_line digest ++ codes "refused NoRow\n"; status = BadWord }

-- the reply to `root` in a state, and that to `prove`
pub record IsRootOf (state : State) (reply : Reply) : Type 0 where
  pub digest : List ℕ
  pub is_root : IsRoot digest state
  pub is : reply ≡ record { text = root_line digest; status = Done }

pub record IsProofOf (state : State) (number : ℕ) (reply : Reply) : Type 0 where
  pub digest : List ℕ
  pub is_root : IsRoot digest state
  pub is_proved : IsProved state number digest reply
