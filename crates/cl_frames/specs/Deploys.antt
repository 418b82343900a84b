-- What the evaluation of a deployment shows of the meaning under its limit.
use Rattle.std.specs.Prelude.{◌≡◌, ℕ, List, [], Option, Some, None, unwrap_or, Result, Ok, Err}
use Rattle.indexmap.specs.IndexMap.{IndexMap}
use Rattle.cl_types.specs.declared.fault.Fault.{Fault}
use Rattle.cl_types.specs.Fault.{IsRefusal}
use Rattle.cl_shapes.specs.Limits.{Purse}
use Rattle.cl_shapes.specs.declared.name.CostName.TheVariants.{Deploy}
use Rattle.cl_costs.specs.Tables.{function_of}
use Rattle.cl_sexpr.specs.Tree.{Tree}
use Rattle.cl_values.specs.Tree.{Tree as Val, UintV}
use Rattle.cl_forms.specs.Forms.{Form}
use Rattle.cl_events.specs.State.{State}
use Rattle.cl_contracts.specs.declared.checked.Checked.{Checked}
use Rattle.cl_contracts.specs.Seen.{forms_of, deployed_seen}
use Rattle.cl_meaning.specs.Answers.{Answer, charged}
use Rattle.cl_meaning.specs.Deployed.{Contract}
use Rattle.cl_meaning.specs.Deploying.{defined, all_defined, forms_at}
use Rattle.cl_meaning.specs.Top.{top}
use Rattle.cl_meaning.specs.Limits.{Costs, Limited, Gave, limited}
use Rattle.cl_newness.specs.Newness as newness
use Rattle.cl_frames.specs.declared.stop.Stop.{Stop}
use Rattle.cl_frames.specs.declared.abort.Abort.{Abort}
use Rattle.cl_frames.specs.declared.deploying.Deploying.{Deploying}
use Rattle.cl_frames.specs.Aborts.{AbortsBy}
use Rattle.cl_frames.specs.Homes.{frame_seen}
use Rattle.cl_frames.specs.Runs.{Ends}
use Rattle.cl_frames.specs.Watching.{Seen, watched}
use Rattle.cl_frames.specs.Watching as walks

-- a contract with the values that its constants have so far
abbrev pub contract_with : Checked → List (List ℕ × Val) → Contract
contract_with c constants = record { principal = c.principal; version = c.version; forms = forms_of c; source_length = c.source_length; constants = constants }

-- what isn't defined after so many turns is new
abbrev pub AreNew : Checked → ℕ → List (List ℕ × Val) → State → Type 0
AreNew c done constants s = newness.AreNew c.principal (forms_of c) c.order.items done constants s

-- ---- a contract that is being deployed

abbrev pub costs_of : Deploying → Costs
costs_of d = function_of d.costs.now

abbrev pub contract_so_far : Deploying → List (List ℕ × Val) → Contract
contract_so_far d constants = contract_with d.checked.now constants

-- the frame's contract is the one that is being deployed
pub record IsDeploying (d : Deploying) : Type 0 where
  pub home : d.checked.now.principal ≡ d.frame.now.contract

-- an expression at the top
abbrev pub top_of : Deploying → List (List ℕ × Val) → Tree → State → Answer Val
top_of d constants e s = top (deployed_seen d.deployed.now) (frame_seen d.frame.now) (contract_so_far d constants) e s

-- a definition
abbrev pub defined_by : Deploying → Form → List (List ℕ × Val) → State → Answer Contract
defined_by d f constants s = defined (deployed_seen d.deployed.now) (frame_seen d.frame.now) (unwrap_or f.name []) f.kind (contract_so_far d constants) s

-- the definitions at these places
abbrev pub all_by : Deploying → List ℕ → List (List ℕ × Val) → State → Answer Contract
all_by d places constants s = all_defined (deployed_seen d.deployed.now) (frame_seen d.frame.now) (forms_at (forms_of d.checked.now) places) (contract_so_far d constants) s

-- the charge of the text, and all definitions
abbrev pub all_charged : Deploying → List (List ℕ × Val) → State → Answer Contract
all_charged d constants s = charged Deploy d.checked.now.source_length (all_by d d.checked.now.order.items constants s)

-- the contract, where nothing stopped
abbrev pub contract_in : Deploying → List (List ℕ × Val) → Result (Unit {0}) Stop → Result Contract Stop
contract_in d constants (Ok u) = Ok (contract_so_far d constants)
contract_in d constants (Err stop) = Err stop

-- what a definition shows of its meaning under the limit: the contract that is given has the constants that are there then
abbrev pub Makes : Deploying → Purse → Answer Contract → List (List ℕ × Val) → Result (Unit {0}) Stop → Purse → State → Type 0
Makes d p a constants r q s = Ends (limited (costs_of d) p a) (contract_in d constants r) q s

-- the same, with what was seen before and then
abbrev pub Builds : Deploying → Purse → Seen → Answer Contract → List (List ℕ × Val) → Result (Unit {0}) Stop → Purse → Seen → State → Type 0
Builds d p j a constants r q k s = walks.Ends (watched (costs_of d) p j a) (contract_in d constants r) q k s

-- the supply cap that a value is
abbrev pub cap_of : Val → Option ℕ
cap_of (UintV n) = Some n
cap_of v = None

-- a deployment gives what the limit leaves, the contract with the values of its constants; or aborts as it says
abbrev pub Deploys : {S : Type 0} → Limited Contract → Checked → Result (IndexMap (List ℕ) Val S) (Fault Abort) → Purse → State → Type 0
Deploys l c (Ok constants) q s = l ≡ Gave (contract_with c constants.entries) s q
Deploys l c (Err fault) q s = IsRefusal fault (λ abort. AbortsBy l abort q)
