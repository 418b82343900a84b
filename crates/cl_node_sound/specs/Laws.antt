-- Nodes stay sound, and entries come to something.
use Rattle.std.specs.Prelude.{◌≡◌, ℕ, List, Some, None}
use Rattle.std.specs.List.{All}
use Rattle.cl_forms.specs.declared.version.Version.{Version}
use Rattle.cl_forms.specs.Texts.{text_of}
use Rattle.cl_c32.specs.declared.principal.Principal.{Principal}
use Rattle.cl_shapes.specs.declared.cost.Cost5.{Cost5}
use Rattle.cl_shapes.specs.Costs.{IsAtMost}
use Rattle.cl_shapes.specs.Limits.{Purse, limit_of}
use Rattle.cl_values.specs.Tree.{Tree}
use Rattle.cl_values.specs.Valid.{IsPrincipal}
use Rattle.cl_maps.specs.Maps.{get}
use Rattle.cl_events.specs.State.{State, place}
use Rattle.cl_meaning.specs.Deployed.{Contract, contract_at, value_of}
use Rattle.cl_meaning.specs.Deploying.{deployment}
use Rattle.cl_costs.specs.Schedules.{ScheduleSeen}
use Rattle.cl_meaning.specs.Limits.{Gave, limited}
use Rattle.cl_rules.specs.Bills.{cost_under}
use Rattle.cl_rules.specs.Context.{Known, Signature, known_at, signature_in}
use Rattle.cl_rules.specs.Acceptance.{Accepted}
use Rattle.cl_file.specs.declared.entry.Common.{Common}
use Rattle.cl_file.specs.declared.entry.Entry.{Entry}
use Rattle.cl_file.specs.declared.entry.Entry.TheVariants.{Deploy, Call}
use Rattle.cl_file.specs.Files.{FileSeen}
use Rattle.cl_tx.specs.declared.outcome.Bounds.{Bounds}
use Rattle.cl_tx.specs.declared.outcome.TxResult.{TxResult}
use Rattle.cl_tx.specs.Nodes.{NodeSeen, Stepped, contract_of, frame_of, purse_of}
use Rattle.cl_tx.specs.Step.{Steps, Runs, contract_with, costs_for, first_node}
use Rattle.cl_node_sound.specs.Sound.{IsSoundNode, IsWithinBound, IsTypedAnswer, IsTypedUnder, HasParts, FileHasParts, given_by}
use Rattle.cl_node_sound.specs.Told.{none_told, told_by, AreChargedWithin, IsStopped, AreNotStopped, AreTyped, line_under}

-- with holders who are principals
abbrev pub FirstIsSound : Type 0
FirstIsSound = (holders : List (Principal × ℕ)) → All (λ (h : Principal × ℕ). IsPrincipal h.0) holders → IsSoundNode (first_node holders)

-- what an entry makes of a sound node is one
abbrev pub SoundStay : Type 0
SoundStay = (schedule : ScheduleSeen) (node : NodeSeen) (entry : Entry) (s : Stepped) → HasParts entry → IsSoundNode node → Steps schedule node entry s → IsSoundNode s.node

-- after the entries of a file there is a sound one
abbrev pub RunsEndSound : Type 0
RunsEndSound = (schedule : ScheduleSeen) (file : FileSeen) (results : List TxResult) (after : NodeSeen) → FileHasParts file → Runs schedule file results after → IsSoundNode after

-- what a call is charged, aborted or not, is at most its function's bound
abbrev pub CallsStayWithin : Type 0
CallsStayWithin =
    (schedule : ScheduleSeen) (node : NodeSeen) (common : Common) (contract : Principal) (function : List ℕ) (args : List Tree) (s : Stepped) → HasParts (Call common contract function args) → IsSoundNode node →
    Steps schedule node (Call common contract function args) s → (cost : Cost5) → s.result.cost ≡ Some cost → IsWithinBound (costs_for schedule node) node.known contract function cost

-- and what a deployment is charged is at most the bound that is told with it
abbrev pub DeploymentsStayWithin : Type 0
DeploymentsStayWithin =
    (schedule : ScheduleSeen) (node : NodeSeen) (common : Common) (name source : List ℕ) (version : Version) (s : Stepped) → HasParts (Deploy common name source version) → IsSoundNode node →
    Steps schedule node (Deploy common name source version) s → (cost : Cost5) (bounds : Bounds) → s.result.cost ≡ Some cost → s.result.bounds ≡ Some bounds → IsAtMost cost bounds.deploy

-- of a file no entry is charged above the bound that was printed last
abbrev pub RunsStayWithin : Type 0
RunsStayWithin = (schedule : ScheduleSeen) (file : FileSeen) (results : List TxResult) (after : NodeSeen) → FileHasParts file → Runs schedule file results after → AreChargedWithin none_told file.entries results

-- after the entries of a file the line that was printed last of each deployed function has its bound under the table of the node's
-- height, and its type
abbrev pub RunsTellBounds : Type 0
RunsTellBounds =
    (schedule : ScheduleSeen) (file : FileSeen) (results : List TxResult) (after : NodeSeen) → FileHasParts file → Runs schedule file results after →
    (p : Principal) (known : Known) → known_at p after.known ≡ Some known → (x : List ℕ) (signature : Signature) → signature_in x known.functions ≡ Some signature →
    told_by none_told file.entries results p x ≡ Some (line_under (costs_for schedule after) signature)

-- ---- limits

-- a call whose limit in each dimension is no less than its function's bound isn't stopped by it
abbrev pub CallsAreNotStopped : Type 0
CallsAreNotStopped =
    (schedule : ScheduleSeen) (node : NodeSeen) (common : Common) (contract : Principal) (function : List ℕ) (args : List Tree) (s : Stepped) → HasParts (Call common contract function args) → IsSoundNode node →
    (known : Known) (signature : Signature) → known_at contract node.known ≡ Some known → signature_in function known.functions ≡ Some signature → IsAtMost (cost_under (costs_for schedule node) signature.bound) (limit_of common.limit) →
    Steps schedule node (Call common contract function args) s → IsStopped s.result.outcome → ⊥

-- nor is a deployment whose limit is no less than the bound that is told with it
abbrev pub DeploymentsAreNotStopped : Type 0
DeploymentsAreNotStopped =
    (schedule : ScheduleSeen) (node : NodeSeen) (common : Common) (name source : List ℕ) (version : Version) (s : Stepped) → HasParts (Deploy common name source version) → IsSoundNode node →
    Steps schedule node (Deploy common name source version) s → (bounds : Bounds) → s.result.bounds ≡ Some bounds → IsAtMost bounds.deploy (limit_of common.limit) → IsStopped s.result.outcome → ⊥

-- nor is an entry of a file whose limit is no less than the bound that was printed last
abbrev pub RunsAreNotStopped : Type 0
RunsAreNotStopped = (schedule : ScheduleSeen) (file : FileSeen) (results : List TxResult) (after : NodeSeen) → FileHasParts file → Runs schedule file results after → AreNotStopped none_told file.entries results

-- ---- answers

-- each call comes to something: its evaluation is never wrong, and needs no more depth than there is
abbrev pub CallsStep : Type 0
CallsStep =
    (schedule : ScheduleSeen) (node : NodeSeen) (common : Common) (contract : Principal) (function : List ℕ) (args : List Tree) → HasParts (Call common contract function args) → IsSoundNode node →
    (s : Stepped) × Steps schedule node (Call common contract function args) s

-- and so does each deployment of an accepted source
abbrev pub DeploymentsStep : Type 0
DeploymentsStep =
    (schedule : ScheduleSeen) (node : NodeSeen) (common : Common) (name source : List ℕ) (version : Version) → HasParts (Deploy common name source version) → IsSoundNode node →
    known_at (contract_of common.sender name) node.known ≡ None → Accepted node.known (contract_of common.sender name) (costs_for schedule node) (text_of source version) →
    (s : Stepped) × Steps schedule node (Deploy common name source version) s

-- the value that a call gives, an ok and an err as responses, is of the type that its function returns
abbrev pub CallsAreTyped : Type 0
CallsAreTyped =
    (schedule : ScheduleSeen) (node : NodeSeen) (common : Common) (contract : Principal) (function : List ℕ) (args : List Tree) (s : Stepped) → HasParts (Call common contract function args) → IsSoundNode node →
    Steps schedule node (Call common contract function args) s → (v : Tree) → given_by s.result.outcome ≡ Some v → IsTypedAnswer node.known contract function v

-- of a file each call gives a value of the type that was printed last for its function, no larger than this type allows
abbrev pub RunsAreTyped : Type 0
RunsAreTyped = (schedule : ScheduleSeen) (file : FileSeen) (results : List TxResult) (after : NodeSeen) → FileHasParts file → Runs schedule file results after → AreTyped none_told file.entries results

-- each value that the deployment of an accepted source gives is of the type of the constant of its name
abbrev pub DeployedHaveConstants : Type 0
DeployedHaveConstants =
    (schedule : ScheduleSeen) (node : NodeSeen) (common : Common) (name source : List ℕ) (version : Version) → HasParts (Deploy common name source version) → IsSoundNode node →
    known_at (contract_of common.sender name) node.known ≡ None → (accepted : Accepted node.known (contract_of common.sender name) (costs_for schedule node) (text_of source version)) → (c : Contract) (s : State) (purse : Purse) →
    limited (costs_for schedule node) (purse_of common) (deployment node.contracts (frame_of node common.sender (contract_of common.sender name)) (contract_with (contract_of common.sender name) (text_of source version) accepted.forms) node.state) ≡ Gave c s purse →
    (x : List ℕ) (v : Tree) → value_of x c.constants ≡ Some v → IsTypedUnder accepted.defined.context.constants x v

-- where no contract is deployed there is no token of one
abbrev pub NewHaveNoTokens : Type 0
NewHaveNoTokens =
    (node : NodeSeen) → IsSoundNode node → (p : Principal) → IsPrincipal p → contract_at p node.contracts ≡ None → (x : List ℕ) →
    (get (place p x) node.state.fungibles ≡ None) × (get (place p x) node.state.nonfungibles ≡ None)
