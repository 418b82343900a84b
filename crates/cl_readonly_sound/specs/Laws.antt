-- Functions that don't write leave the state untouched.
use Rattle.std.specs.Prelude.{◌≡◌, ℕ, List, Some}
use Rattle.cl_types.specs.declared.sized.Access.TheVariants.{ReadOnly}
use Rattle.cl_c32.specs.declared.principal.Principal.{Principal}
use Rattle.cl_values.specs.Tree.{Tree}
use Rattle.cl_values.specs.Valid.{IsPrincipal}
use Rattle.cl_forms.specs.Writes.{Writes}
use Rattle.cl_events.specs.State.{State}
use Rattle.cl_costs.specs.Schedules.{ScheduleSeen}
use Rattle.cl_meaning.specs.Deployed.{Contract, Deployed, Function, contract_at, function_in}
use Rattle.cl_meaning.specs.Scope.{Frame}
use Rattle.cl_meaning.specs.Top.{call_from}
use Rattle.cl_rules.specs.Context.{Known}
use Rattle.cl_rules.specs.Acceptance.{calls_public}
use Rattle.cl_contract_sound.specs.Nodes.{IsOfText, AreOfTexts, AreContracts}
use Rattle.cl_file.specs.declared.entry.Common.{Common}
use Rattle.cl_file.specs.declared.entry.Entry.TheVariants.{Call}
use Rattle.cl_tx.specs.Nodes.{NodeSeen, Stepped}
use Rattle.cl_tx.specs.Step.{Steps}
use Rattle.cl_node_sound.specs.Sound.{IsSoundNode, HasParts}
use Rattle.cl_readonly_sound.specs.Untouched.{ArePrints, IsUntouched}

-- At this principal a contract is deployed that stands for a text, which was accepted after these contracts.
pub record StandsForText (W : Deployed) (p : Principal) : Type 0 where
  pub before : List Known
  pub contract : Contract
  pub known : Known
  pub earlier : AreOfTexts W before
  pub of_text : IsOfText before contract known
  pub there : contract_at p W ≡ Some contract
  pub home : contract.principal ≡ p

-- and each deployed contract does
abbrev pub ContractsStandForTexts : Type 0
ContractsStandForTexts =
    (W : Deployed) (ks : List Known) → AreContracts W ks → (p : Principal) → IsPrincipal p → (c : Contract) → contract_at p W ≡ Some c → StandsForText W p

-- the function of this name isn't among those of the contract that write
pub record DoesNotWrite (W : Deployed) (p : Principal) (x : List ℕ) : Type 0 where
  pub text : StandsForText W p
  pub apart : Writes text.contract.forms (calls_public text.before p) x → ⊥

-- a call of the function, in any frame of the contract, with any values and in any state, whatever it comes to
abbrev pub CallsLeaveStates : Type 0
CallsLeaveStates =
    (W : Deployed) (p : Principal) (x : List ℕ) → DoesNotWrite W p x → (c : Contract) → contract_at p W ≡ Some c → (f : Function) → function_in x c.forms ≡ Some f →
    (F : Frame) → F.contract ≡ p → (vs : List Tree) (s : State) → IsUntouched s (call_from W F f vs s).state

-- a read-only function of a deployed contract doesn't write
abbrev pub ReadOnlyDoNotWrite : Type 0
ReadOnlyDoNotWrite =
    (W : Deployed) (ks : List Known) → AreContracts W ks →
    (p : Principal) → IsPrincipal p → (c : Contract) → contract_at p W ≡ Some c → (x : List ℕ) (f : Function) → function_in x c.forms ≡ Some f → f.access ≡ ReadOnly → DoesNotWrite W p x

-- and so a call of it leaves the state untouched
abbrev pub ReadOnlyLeaveStates : Type 0
ReadOnlyLeaveStates =
    (W : Deployed) (ks : List Known) → AreContracts W ks →
    (p : Principal) → IsPrincipal p → (c : Contract) → contract_at p W ≡ Some c → (x : List ℕ) (f : Function) → function_in x c.forms ≡ Some f → f.access ≡ ReadOnly →
    (F : Frame) → F.contract ≡ p → (vs : List Tree) (s : State) → IsUntouched s (call_from W F f vs s).state

-- ---- nodes

-- what a call of a function that doesn't write makes of a sound node is that node
abbrev pub CallsKeepNodes : Type 0
CallsKeepNodes =
    (schedule : ScheduleSeen) (node : NodeSeen) (common : Common) (contract : Principal) (function : List ℕ) (args : List Tree) (s : Stepped) → HasParts (Call common contract function args) → IsSoundNode node →
    DoesNotWrite node.contracts contract function → Steps schedule node (Call common contract function args) s → s.node ≡ node

-- and the events that are handed out were printed
abbrev pub CallsHandOutPrints : Type 0
CallsHandOutPrints =
    (schedule : ScheduleSeen) (node : NodeSeen) (common : Common) (contract : Principal) (function : List ℕ) (args : List Tree) (s : Stepped) → HasParts (Call common contract function args) → IsSoundNode node →
    DoesNotWrite node.contracts contract function → Steps schedule node (Call common contract function args) s → ArePrints s.result.events

-- a read-only function is such a one
abbrev pub ReadOnlyKeepNodes : Type 0
ReadOnlyKeepNodes =
    (schedule : ScheduleSeen) (node : NodeSeen) (common : Common) (contract : Principal) (function : List ℕ) (args : List Tree) (s : Stepped) → HasParts (Call common contract function args) → IsSoundNode node →
    (c : Contract) → contract_at contract node.contracts ≡ Some c → (f : Function) → function_in function c.forms ≡ Some f → f.access ≡ ReadOnly →
    Steps schedule node (Call common contract function args) s → s.node ≡ node
