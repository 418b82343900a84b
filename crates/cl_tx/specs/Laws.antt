-- The laws of steps.
use Rattle.std.specs.Prelude.{◌≡◌, ℕ, List, [], map, None, IsSome}
use Rattle.cl_forms.specs.declared.version.Version.{Version}
use Rattle.cl_forms.specs.Texts.{text_of}
use Rattle.cl_c32.specs.declared.principal.Principal.{Principal}
use Rattle.cl_values.specs.Tree.{Tree}
use Rattle.cl_events.specs.declared.event.Event.{Event}
use Rattle.cl_meaning.specs.Deployed.{Contract}
use Rattle.cl_costs.specs.Schedules.{ScheduleSeen, epoch_at, costs_at}
use Rattle.cl_rules.specs.Context.{Known, known_at}
use Rattle.cl_rules.specs.Acceptance.{Accepted, AreDeployed}
use Rattle.cl_file.specs.declared.entry.Common.{Common}
use Rattle.cl_file.specs.declared.entry.Entry.{Entry}
use Rattle.cl_file.specs.declared.entry.Entry.TheVariants.{Deploy, Call, Block}
use Rattle.cl_tx.specs.declared.outcome.Outcome.{Outcome}
use Rattle.cl_tx.specs.declared.outcome.Outcome.TheVariants.{Moved, Done, Good, Bad, Plain, Aborted, Refused}
use Rattle.cl_tx.specs.declared.outcome.TxResult.{TxResult}
use Rattle.cl_file.specs.Files.{FileSeen}
use Rattle.cl_file.specs.Entries.{height_of}
use Rattle.cl_tx.specs.Nodes.{NodeSeen, Stepped, contract_of}
use Rattle.cl_tx.specs.Rebounds.{rebounds}
use Rattle.cl_tx.specs.Step.{Steps, Runs, Commits, costs_for, first_node}

-- one thing comes of an entry
abbrev pub OneStep : Type 0
OneStep = (schedule : ScheduleSeen) (node : NodeSeen) (entry : Entry) (s t : Stepped) → Steps schedule node entry s → Steps schedule node entry t → s ≡ t

-- the results of a file's entries are one, and so is the node after them
abbrev pub OneRun : Type 0
OneRun = (schedule : ScheduleSeen) (file : FileSeen) (r q : List TxResult) (m n : NodeSeen) → Runs schedule file r m → Runs schedule file q n → (r ≡ q) × (m ≡ n)

-- the events that a file commits are one list
abbrev pub OneCommit : Type 0
OneCommit = (schedule : ScheduleSeen) (file : FileSeen) (a b : List Event) → Commits schedule file a → Commits schedule file b → a ≡ b

-- what an entry changed is kept
abbrev pub IsKept : Outcome → Type 0
IsKept Moved = Unit {0}
IsKept Done = Unit {0}
IsKept (Good v) = Unit {0}
IsKept (Bad v) = ⊥
IsKept (Plain v) = Unit {0}
IsKept (Aborted why) = ⊥
IsKept (Refused why) = ⊥

-- a public function's err, what aborts and what is refused leave the node as it was, and hand out no event
abbrev pub FailedChangeNothing : Type 0
FailedChangeNothing = (schedule : ScheduleSeen) (node : NodeSeen) (entry : Entry) (s : Stepped) → Steps schedule node entry s → (IsKept s.result.outcome → ⊥) → (s.node ≡ node) × (s.result.events ≡ [])

-- the contracts of a node were accepted and deployed one after another, evaluations and callers see the same ones, and the state is
-- at rest
pub record IsNode (node : NodeSeen) : Type 0 where
  pub accepted : AreDeployed node.known
  pub same : map (λ (c : Contract). c.principal) node.contracts ≡ map (λ (k : Known). k.principal) node.known
  pub no_events : node.state.events ≡ []
  pub no_moves : node.state.moves ≡ []

abbrev pub FirstIsNode : Type 0
FirstIsNode = (holders : List (Principal × ℕ)) → IsNode (first_node holders)

-- an entry makes a node of a node
abbrev pub NodesStay : Type 0
NodesStay = (schedule : ScheduleSeen) (node : NodeSeen) (entry : Entry) (s : Stepped) → IsNode node → Steps schedule node entry s → IsNode s.node

-- after the entries of a file there is a node
abbrev pub RunsEndInNodes : Type 0
RunsEndInNodes = (schedule : ScheduleSeen) (file : FileSeen) (results : List TxResult) (after : NodeSeen) → Runs schedule file results after → IsNode after

-- where a result has bounds, a deployment's source was accepted
abbrev pub ToldIsAccepted : Type 0
ToldIsAccepted = (schedule : ScheduleSeen) (node : NodeSeen) (common : Common) (name source : List ℕ) (version : Version) (s : Stepped) → Steps schedule node (Deploy common name source version) s → IsSome s.result.bounds → Accepted node.known (contract_of common.sender name) (costs_for schedule node) (text_of source version)

-- where the source of a new contract is accepted, the result has bounds
abbrev pub AcceptedIsTold : Type 0
AcceptedIsTold = (schedule : ScheduleSeen) (node : NodeSeen) (common : Common) (name source : List ℕ) (version : Version) (s : Stepped) → Steps schedule node (Deploy common name source version) s → known_at (contract_of common.sender name) node.known ≡ None → Accepted node.known (contract_of common.sender name) (costs_for schedule node) (text_of source version) → IsSome s.result.bounds

-- a call has none
abbrev pub CallTellsNone : Type 0
CallTellsNone = (schedule : ScheduleSeen) (node : NodeSeen) (common : Common) (contract : Principal) (function : List ℕ) (args : List Tree) (s : Stepped) → Steps schedule node (Call common contract function args) s → (s.result.bounds ≡ None) × (s.result.types ≡ [])

-- a block tells no bounds
abbrev pub BlockTellsNone : Type 0
BlockTellsNone = (schedule : ScheduleSeen) (node : NodeSeen) (height : ℕ) (s : Stepped) → Steps schedule node (Block height) s → (s.result.bounds ≡ None) × (s.result.types ≡ [])

-- after the entries of a file the height is that of its last block, and 0 where it has none
abbrev pub HeightIsLast : Type 0
HeightIsLast = (schedule : ScheduleSeen) (file : FileSeen) (results : List TxResult) (after : NodeSeen) → Runs schedule file results after → after.height ≡ height_of 0 file.entries

-- the result of a deployment or a call has no bounds of deployed functions
abbrev pub IsBlock : Entry → Type 0
IsBlock (Deploy common name source version) = ⊥
IsBlock (Call common contract function args) = ⊥
IsBlock (Block height) = Unit {0}

abbrev pub OthersReboundNone : Type 0
OthersReboundNone = (schedule : ScheduleSeen) (node : NodeSeen) (entry : Entry) (s : Stepped) → Steps schedule node entry s → (IsBlock entry → ⊥) → s.result.rebounds ≡ []

-- nor has that of a block at whose height the number of the epoch is the same; the table is the same, too
abbrev pub SameReboundsNone : Type 0
SameReboundsNone = (schedule : ScheduleSeen) (node : NodeSeen) (height : ℕ) (s : Stepped) → Steps schedule node (Block height) s → epoch_at schedule node.height ≡ epoch_at schedule height → (s.result.rebounds ≡ []) × (costs_for schedule s.node ≡ costs_for schedule node)

-- that of any other block has those of all deployed functions, under the table of its height
abbrev pub OtherRebounds : Type 0
OtherRebounds = (schedule : ScheduleSeen) (node : NodeSeen) (height : ℕ) (s : Stepped) → Steps schedule node (Block height) s → (epoch_at schedule node.height ≡ epoch_at schedule height → ⊥) → s.result.rebounds ≡ rebounds (costs_at schedule height) node
