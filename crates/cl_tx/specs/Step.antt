-- The step of a node: what an entry makes of it, under a schedule of costs. Its table is that of its height.
use Rattle.std.specs.Prelude.{◌≡◌, ℕ, suc, nat_eq, Bool, true, false, List, [], ◌∷◌, ◌++◌, length, unwrap_or, option_map, if◌then◌else◌, Option, Some, None}
use Rattle.std.specs.List.{filter_map}
use Rattle.cl_types.specs.Types.{PlainType}
use Rattle.cl_types.specs.declared.sized.Access.{Access}
use Rattle.cl_types.specs.declared.sized.Access.TheVariants.{Private}
use Rattle.cl_c32.specs.declared.principal.Principal.{Principal}
use Rattle.cl_shapes.specs.declared.function.CostFn.{CostFn}
use Rattle.cl_shapes.specs.declared.cost.Cost5.{Cost5}
use Rattle.cl_shapes.specs.declared.cost.Dimension.{Dimension}
use Rattle.cl_sexpr.specs.declared.sexpr.Span.{Span}
use Rattle.cl_sexpr.specs.declared.rule.Rule.{Rule}
use Rattle.cl_values.specs.Tree.{Tree}
use Rattle.cl_values.specs.Inhabits.{inhabits}
use Rattle.cl_forms.specs.Texts.{Text, text_of}
use Rattle.cl_forms.specs.Forms.{Form, FormKind, FunctionForm}
use Rattle.cl_events.specs.State.{genesis}
use Rattle.cl_events.specs.declared.event.Event.{Event}
use Rattle.cl_costs.specs.Schedules.{ScheduleSeen, costs_at}
use Rattle.cl_meaning.specs.Deployed.{Contract, Function, contract_at, function_in}
use Rattle.cl_meaning.specs.Deploying.{deployment}
use Rattle.cl_meaning.specs.Limits.{Costs, limited}
use Rattle.cl_meaning.specs.Top.{call_from}
use Rattle.cl_rules.specs.Bills.{Bill, cost_under}
use Rattle.cl_rules.specs.Context.{Known, Signature, known_at, signature_in}
use Rattle.cl_rules.specs.FormRules.{Defined}
use Rattle.cl_rules.specs.Acceptance.{Accepted, FirstBreakOf, bound_of, known_of}
use Rattle.cl_file.specs.declared.entry.Common.{Common}
use Rattle.cl_file.specs.declared.entry.Entry.{Entry}
use Rattle.cl_file.specs.declared.entry.Entry.TheVariants.{Deploy, Call, Block}
use Rattle.cl_tx.specs.declared.outcome.EntryRefusal.TheVariants.{NoContract, NoFunction, NotPublic, ArgumentCount, Argument, NameTaken, ContractRefused, NoBound}
use Rattle.cl_tx.specs.declared.outcome.Outcome.{Outcome}
use Rattle.cl_tx.specs.declared.outcome.Outcome.TheVariants.{Done, Good, Plain}
use Rattle.cl_tx.specs.declared.outcome.TxResult.{TxResult}
use Rattle.cl_file.specs.Files.{FileSeen}
use Rattle.cl_tx.specs.Rebounds.{first_over, rebounds_at}
use Rattle.cl_tx.specs.Nodes.{NodeSeen, Stepped, Told, frame_of, contract_of, purse_of, refused, moved, call_ended, deployment_ended}

-- ---- a call
--
-- The order of its tests, which are written from the last to the first: the contract is deployed, it has the function, the
-- function isn't private, it takes so many arguments, each argument is of its parameter's type, its bound is within the limit; then
-- it is applied.

-- the first argument, counted from a number on, that isn't of its parameter's type
abbrev pub first_misfit : ℕ → List (List ℕ × PlainType) → List Tree → Option ℕ
first_misfit n (p ∷ ps) (v ∷ vs) = if inhabits v p.1 then first_misfit (suc n) ps vs else Some n
first_misfit n ps vs = None

-- the function is applied to arguments of its parameters' types
unfoldable pub run_call : Costs → NodeSeen → Common → Principal → Function → List Tree → Option Stepped
run_call costs node common contract f args = call_ended common f.access node (limited costs (purse_of common) (call_from node.contracts (frame_of node common.sender contract) f args node.state))

abbrev pub if_bounded : Costs → NodeSeen → Common → Principal → Function → List Tree → Option Dimension → Option Stepped
if_bounded costs node common contract f args (Some dimension) = Some (refused node (NoBound dimension))
if_bounded costs node common contract f args None = run_call costs node common contract f args

abbrev pub if_fitting : Costs → NodeSeen → Common → Principal → Function → List Tree → Option ℕ → Option Stepped
if_fitting costs node common contract f args (Some index) = Some (refused node (Argument index))
if_fitting costs node common contract f args None = if_bounded costs node common contract f args (first_over costs node.known contract f.name)

abbrev pub if_as_many : Costs → NodeSeen → Common → Principal → Function → List Tree → Bool → Option Stepped
if_as_many costs node common contract f args false = Some (refused node ArgumentCount)
if_as_many costs node common contract f args true = if_fitting costs node common contract f args (first_misfit 0 f.params args)

abbrev pub if_open : Costs → NodeSeen → Common → Principal → Function → List Tree → Access → Option Stepped
if_open costs node common contract f args Private = Some (refused node NotPublic)
if_open costs node common contract f args access = if_as_many costs node common contract f args (nat_eq (length args) (length f.params))

abbrev pub if_function : Costs → NodeSeen → Common → Principal → List Tree → Option Function → Option Stepped
if_function costs node common contract args None = Some (refused node NoFunction)
if_function costs node common contract args (Some f) = if_open costs node common contract f args f.access

abbrev pub if_deployed : Costs → NodeSeen → Common → Principal → List ℕ → List Tree → Option Contract → Option Stepped
if_deployed costs node common contract function args None = Some (refused node NoContract)
if_deployed costs node common contract function args (Some c) = if_function costs node common contract args (function_in function c.forms)

-- what a call comes to: the first refusal that holds, or what comes of the application
unfoldable pub call_step : Costs → NodeSeen → Common → Principal → List ℕ → List Tree → Option Stepped
call_step costs node common contract function args = if_deployed costs node common contract function args (contract_at contract node.contracts)

-- ---- a deployment

-- a form that is a function: its name with its bound, and the type that it returns
abbrev pub bound_line : Costs → Defined → Form → Option (List ℕ × Cost5)
bound_line costs defined form = option_map (λ (bound : Bill). (unwrap_or form.name [], cost_under costs bound)) (bound_of defined form)

abbrev pub return_by : Defined → FormKind → List ℕ → Option PlainType
return_by defined (FunctionForm access params body) name = option_map (λ (f : Signature). f.returns) (signature_in name defined.context.functions)
return_by defined kind name = None

abbrev pub return_of : Defined → Form → Option PlainType
return_of defined form = return_by defined form.kind (unwrap_or form.name [])

-- the bounds and return types of an accepted contract, in the order of its text
abbrev pub told_of : Costs → Defined → List Form → Told
told_of costs defined forms = record {
  bounds = Some (record { deploy = cost_under costs defined.deploy; functions = filter_map (bound_line costs defined) forms });
  types = filter_map (return_of defined) forms;
}

-- a contract whose constants have no values yet
abbrev pub contract_with : Principal → Text → List Form → Contract
contract_with principal source forms = record { principal = principal; version = source.version; forms = forms; source_length = length source.bytes; constants = [] }

-- the deployment of an accepted source of these forms, which define this
unfoldable pub run_deployment : Costs → NodeSeen → Common → Principal → Text → List Form → Defined → Option Stepped
run_deployment costs node common principal source forms defined = deployment_ended common node (told_of costs defined forms) (known_of principal (length source.bytes) defined) (limited costs (purse_of common) (deployment node.contracts (frame_of node common.sender principal) (contract_with principal source forms) node.state))

-- what a deployment comes to
pub data DeploySteps (costs : Costs) (node : NodeSeen) (common : Common) (principal : Principal) (source : Text) (s : Stepped) : Type 0 where
  -- a contract of this name is deployed
  name_taken : (known : Known) → known_at principal node.known ≡ Some known → s ≡ refused node NameTaken → DeploySteps costs node common principal source s
  -- the source breaks a rule
  source_refused : (rule : Rule) (span : Span) (names : List (List ℕ)) → known_at principal node.known ≡ None → FirstBreakOf node.known principal costs source rule span names → s ≡ refused node (ContractRefused (record { rule = rule; span = span; names = names })) → DeploySteps costs node common principal source s
  -- it is accepted, and evaluated
  evaluated : known_at principal node.known ≡ None → (accepted : Accepted node.known principal costs source) → run_deployment costs node common principal source accepted.forms accepted.defined ≡ Some s → DeploySteps costs node common principal source s

-- ---- entries

-- the costs at a node's height
abbrev pub costs_for : ScheduleSeen → NodeSeen → Costs
costs_for schedule node = costs_at schedule node.height

-- What an entry makes of a node. The evaluations go to a depth of 256. What is charged above the entry's limit, what aborts, what
-- an entry's conditions don't let pass, and a public function's err leave the node as it was.
abbrev pub Steps : ScheduleSeen → NodeSeen → Entry → Stepped → Type 0
Steps schedule node (Deploy common name source version) s = DeploySteps (costs_for schedule node) node common (contract_of common.sender name) (text_of source version) s
Steps schedule node (Call common contract function args) s = call_step (costs_for schedule node) node common contract function args ≡ Some s
Steps schedule node (Block height) s = s ≡ moved node height (rebounds_at schedule node height)

-- the entries one after another, with their results
abbrev pub AllStep : ScheduleSeen → NodeSeen → List Entry → List TxResult → NodeSeen → Type 0
AllStep schedule node [] results after = (results ≡ []) × (after ≡ node)
AllStep schedule node (e ∷ es) results after = (s : Stepped) × (more : List TxResult) × Steps schedule node e s × AllStep schedule s.node es more after × (results ≡ s.result ∷ more)

-- before all entries, with these holders of STX
abbrev pub first_node : List (Principal × ℕ) → NodeSeen
first_node holders = record { state = genesis holders; contracts = []; known = []; height = 0 }

-- the schedule of a cost file's table and a file's epochs
abbrev pub schedule_of : List CostFn → FileSeen → ScheduleSeen
schedule_of table file = record { first = table; epochs = file.epochs }

-- the results of a file's entries under a schedule, and the node after them
pub record Runs (schedule : ScheduleSeen) (file : FileSeen) (results : List TxResult) (after : NodeSeen) : Type 0 where
  pub steps : AllStep schedule (first_node file.genesis) file.entries results after

-- ---- what was committed

abbrev pub if_committed : Outcome → List Event → List Event
if_committed Done events = events
if_committed (Good v) events = events
if_committed (Plain v) events = events
if_committed outcome events = []

-- the events of the entries that were committed, in order
abbrev pub committed : List TxResult → List Event
committed [] = []
committed (r ∷ rs) = if_committed r.outcome r.events ++ committed rs

-- the events that a file commits
pub record Commits (schedule : ScheduleSeen) (file : FileSeen) (events : List Event) : Type 0 where
  pub results : List TxResult
  pub after : NodeSeen
  pub runs : Runs schedule file results after
  pub events_are : events ≡ committed results
