-- The deployment of a contract, audited.
use Rattle.std.specs.Prelude.{◌≡◌, ℕ, List, [], Option, Some, None, unwrap_or, Result, Ok, Err}
use Rattle.cl_costs.specs.Tables.{function_of}
use Rattle.cl_shapes.specs.declared.name.CostName.TheVariants.{Deploy, Define}
use Rattle.cl_sexpr.specs.Tree.{Tree}
use Rattle.cl_values.specs.Tree.{Tree as Val, UintV}
use Rattle.cl_forms.specs.Forms.{Form, FormKind}
use Rattle.cl_events.specs.State.{State}
use Rattle.cl_meaning.specs.Answers.{Answer, give, charged}
use Rattle.cl_meaning.specs.Deployed.{Contract}
use Rattle.cl_meaning.specs.Deploying.{all_defined, defined, deployment, forms_at, with_constant}
use Rattle.cl_meaning.specs.Limits.{Charge, limited}
use Rattle.cl_meaning.specs.Top.{top}
use Rattle.cl_meaning.specs.Trace.{Claim as Told, trace_of}
use Rattle.cl_walks.specs.declared.stop.Stop.{Stop}
use Rattle.cl_walks.specs.Ends.{Ends, Stops}
use Rattle.cl_walks.specs.Walked.{Walked, walked}
use Rattle.cl_audit_steps.specs.declared.scope.Contract.{Contract as ContractOfCode}
use Rattle.cl_audit_steps.specs.declared.scope.Scope.{Scope}
use Rattle.cl_audit_steps.specs.Seen.{contract_seen, contracts_seen, frame_seen}
use Rattle.cl_audit_walk.specs.declared.cursor.Cursor.{Cursor}
use Rattle.cl_audit_walk.specs.declared.run.Run.{Run}
use Rattle.cl_audit_walk.specs.Evaluates.{book, rules}
use Rattle.cl_audit.specs.Agrees.{looks, with_kept}

-- ---- meanings, in a scope of the deployed contracts and the frame

-- an expression at the top of the contract
abbrev pub top_of : Scope → ContractOfCode → Tree → State → Answer Val
top_of S c e s = top (contracts_seen S.contracts.now.contracts) (frame_seen S.frame.now) (contract_seen c) e s

-- a form of a name
abbrev pub defined_as : Scope → List ℕ → FormKind → ContractOfCode → State → Answer Contract
defined_as S x kind c s = defined (contracts_seen S.contracts.now.contracts) (frame_seen S.frame.now) x kind (contract_seen c) s

abbrev pub defined_by : Scope → Form → ContractOfCode → State → Answer Contract
defined_by S f c s = defined_as S (unwrap_or f.name []) f.kind c s

-- a form of which nothing is evaluated
abbrev pub declared_only : ContractOfCode → State → Answer Contract
declared_only c s = charged Define 0 (give (contract_seen c) s)

-- the forms at these places
abbrev pub all_by : Scope → List ℕ → ContractOfCode → State → Answer Contract
all_by S places c s = all_defined (contracts_seen S.contracts.now.contracts) (frame_seen S.frame.now) (forms_at c.forms places) (contract_seen c) s

-- the charge of the text, and the forms
abbrev pub all_charged : Scope → List ℕ → ContractOfCode → State → Answer Contract
all_charged S places c s = charged Deploy c.source_length (all_by S places c s)

-- the whole
abbrev pub deployment_of : Scope → ContractOfCode → State → Answer Contract
deployment_of S c s = deployment (contracts_seen S.contracts.now.contracts) (frame_seen S.frame.now) (contract_seen c) s

-- ---- what the code gives of them

-- a contract without the values of its constants
abbrev pub without_values : Contract → Contract
without_values c = record c { constants = [] }

-- the contract with the constant that a form defines, if it defines one
abbrev pub with_defined : ContractOfCode → Option (List ℕ × Val) → Contract
with_defined c None = contract_seen c
with_defined c (Some e) = with_constant e.0 e.1 (contract_seen c)

abbrev pub defined_in : ContractOfCode → Result (Option (List ℕ × Val)) Stop → Result Contract Stop
defined_in c (Ok constant) = Ok (with_defined c constant)
defined_in c (Err stop) = Err stop

-- the contract, where nothing stopped
abbrev pub opened : Result (Unit {0}) Stop → ContractOfCode → Result Contract Stop
opened (Ok u) c = Ok (contract_seen c)
opened (Err stop) c = Err stop

-- the supply cap that a value is
abbrev pub cap_of : Val → Option ℕ
cap_of (UintV n) = Some n
cap_of v = None

-- ---- charges

-- what is charged before an answer
abbrev pub IsPaid : Scope → Charge → Run → Result (Unit {0}) Stop → Run → Type 0
IsPaid S c old (Ok u) new = (a : Answer Contract) → walked (rules S) (book old) (charged c.0 c.1 a) ≡ walked (rules S) (book new) a
IsPaid S c old (Err stop) new = (a : Answer Contract) (s : State) → Stops (walked (rules S) (book old) (charged c.0 c.1 a)) stop (book new) s

-- a charge is paid, or the sum is above the limit
pub record PaysFirst (S : Scope) (c : Charge) (old : Run) (result : Result (Unit {0}) Stop) (new : Run) : Type 0 where
  pub charged : IsPaid S c old result new
  pub world : new.world.stack ≡ old.world.stack

-- ---- the audit

-- the trace of a deployment under the limit
abbrev pub trace_of_deployment : Scope → ContractOfCode → Run → List Told
trace_of_deployment S c run = trace_of (function_of S.costs.now) run.meter (deployment_of S c run.world.stack.top)

-- a deployment under the limit, and the cursor behind its trace
abbrev pub limited_deployment : Scope → ContractOfCode → Run → Walked Cursor Contract
limited_deployment S c run =
    with_kept (limited (function_of S.costs.now) run.meter (deployment_of S c run.world.stack.top)) (looks (rules S) (trace_of_deployment S c run) run.cursor)

-- A deployment ends as the limit leaves its meaning, and the claims were compared with its trace under the limit, one after
-- another; no state below the top changes.
pub record Audits (S : Scope) (c : ContractOfCode) (old : Run) (result : Result Contract Stop) (new : Run) : Type 0 where
  pub deployment : Ends (limited_deployment S c old) result (book new) new.world.stack.top
  pub below : new.world.stack.below ≡ old.world.stack.below
