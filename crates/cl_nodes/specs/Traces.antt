-- The trace of an entry: the nodes of its evaluation that give a value, in the order in which they end.
use Rattle.std.specs.Prelude.{◌≡◌, ℕ, List, [], Option, Some, None}
use Rattle.cl_c32.specs.declared.principal.Principal.{Principal}
use Rattle.cl_values.specs.Tree.{Tree}
use Rattle.cl_forms.specs.Texts.{Text, text_of}
use Rattle.cl_meaning.specs.Deployed.{Function, contract_at, function_of}
use Rattle.cl_meaning.specs.Deploying.{deployment}
use Rattle.cl_meaning.specs.Limits.{Costs}
use Rattle.cl_meaning.specs.Top.{call_from}
use Rattle.cl_meaning.specs.Trace.{Claim, trace_of}
use Rattle.cl_rules.specs.Acceptance.{Accepted}
use Rattle.cl_file.specs.declared.entry.Common.{Common}
use Rattle.cl_file.specs.declared.entry.Entry.{Entry}
use Rattle.cl_file.specs.declared.entry.Entry.TheVariants.{Deploy, Call, Block}
use Rattle.cl_tx.specs.declared.outcome.Outcome.{Outcome}
use Rattle.cl_tx.specs.declared.outcome.Outcome.TheVariants.{Moved, Done, Good, Bad, Plain, Aborted, Refused}
use Rattle.cl_tx.specs.Nodes.{NodeSeen, contract_of, frame_of, purse_of}
use Rattle.cl_tx.specs.Step.{contract_with}

abbrev pub application_trace : Costs → NodeSeen → Common → Principal → List Tree → Option Function → List Claim
application_trace costs node common contract args None = []
application_trace costs node common contract args (Some f) = trace_of costs (purse_of common) (call_from node.contracts (frame_of node common.sender contract) f args node.state)

-- that of a call: of the application of its function
abbrev pub call_trace : Costs → NodeSeen → Common → Principal → List ℕ → List Tree → List Claim
call_trace costs node common contract function args = application_trace costs node common contract args (function_of function (contract_at contract node.contracts))

-- that of a deployment: of the evaluation of its accepted text
pub record IsDeploymentTraceAs {A : Type 0} (shown : List Claim → A) (costs : Costs) (node : NodeSeen) (common : Common) (principal : Principal) (source : Text) (found : A) : Type 0 where
  pub accepted : Accepted node.known principal costs source
  pub is : found ≡ shown (trace_of costs (purse_of common) (deployment node.contracts (frame_of node common.sender principal) (contract_with principal source accepted.forms) node.state))

-- ---- the trace of an entry, in a form in which claims are shown

abbrev pub IsRunTraceAs : {A : Type 0} → (List Claim → A) → Costs → NodeSeen → Entry → A → Type 0
IsRunTraceAs shown costs node (Deploy common name source version) found = IsDeploymentTraceAs shown costs node common (contract_of common.sender name) (text_of source version) found
IsRunTraceAs shown costs node (Call common contract function args) found = found ≡ shown (call_trace costs node common contract function args)
IsRunTraceAs shown costs node (Block height) found = found ≡ shown []

-- The trace of an entry by what becomes of it: an entry that is refused has the empty one, and so has a block. That of an err, of an
-- abort and of an entry whose conditions fail stays.
abbrev pub IsTraceAs : {A : Type 0} → (List Claim → A) → Costs → NodeSeen → Entry → Outcome → A → Type 0
IsTraceAs shown costs node entry (Refused why) found = found ≡ shown []
IsTraceAs shown costs node entry Moved found = found ≡ shown []
IsTraceAs shown costs node entry Done found = IsRunTraceAs shown costs node entry found
IsTraceAs shown costs node entry (Good v) found = IsRunTraceAs shown costs node entry found
IsTraceAs shown costs node entry (Bad v) found = IsRunTraceAs shown costs node entry found
IsTraceAs shown costs node entry (Plain v) found = IsRunTraceAs shown costs node entry found
IsTraceAs shown costs node entry (Aborted why) found = IsRunTraceAs shown costs node entry found

-- ---- as claims

abbrev pub claims : List Claim → List Claim
claims found = found

abbrev pub IsTrace : Costs → NodeSeen → Entry → Outcome → List Claim → Type 0
IsTrace costs node entry outcome found = IsTraceAs claims costs node entry outcome found
