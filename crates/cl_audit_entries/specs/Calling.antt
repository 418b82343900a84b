-- What comes of a call.
use Rattle.std.specs.Prelude.{◌≡◌, ℕ, List, Some, None}
use Rattle.cl_shapes.specs.declared.function.CostFn.{CostFn}
use Rattle.cl_costs.specs.Tables.{function_of}
use Rattle.cl_values.specs.Tree.{Tree}
use Rattle.cl_meaning.specs.Limits.{Costs, Limited, limited}
use Rattle.cl_meaning.specs.Scope.{Frame}
use Rattle.cl_meaning.specs.Trace.{Claim as Told, trace_of}
use Rattle.cl_rules.specs.Context.{Known}
use Rattle.cl_tx.specs.declared.outcome.TxResult.{TxResult}
use Rattle.cl_tx.specs.Nodes.{NodeSeen, Stepped, person, purse_of}
use Rattle.cl_tx.specs.Step.{call_step}
use Rattle.cl_nodes.specs.declared.asked.Invocation.{Invocation}
use Rattle.cl_nodes.specs.declared.contracts.BoundedContracts.{BoundedContracts}
use Rattle.cl_nodes.specs.Asked.{call_entry}
use Rattle.cl_nodes.specs.Bounded.{AreBounded}
use Rattle.cl_nodes.specs.Calling.{ended_so}
use Rattle.cl_nodes.specs.Seen.{node_with}
use Rattle.cl_nodes.specs.Sound.{IsSoundWith}
use Rattle.cl_nodes.specs.Steps.{MakesSound}
use Rattle.cl_audit_steps.specs.declared.scope.Contract.{Contract}
use Rattle.cl_audit_steps.specs.declared.scope.Function.{Function}
use Rattle.cl_audit_steps.specs.declared.scope.Scope.{Scope}
use Rattle.cl_audit_steps.specs.Seen.{frame_seen}
use Rattle.cl_audit.specs.Calls.{call_of}
use Rattle.cl_audit_walk.specs.declared.run.Run.{Run}
use Rattle.cl_audit_entries.specs.declared.call.Called.{Called}
use Rattle.cl_audit_entries.specs.declared.node.Audited.{Audited}
use Rattle.cl_audit_entries.specs.Agreeing.{AgreesUnder}
use Rattle.cl_audit_entries.specs.Seen.{seen_of}

-- the bounds of these contracts are those under a table, as a call finds them
abbrev pub IsCallable : BoundedContracts → List CostFn → Type 0
IsCallable contracts table = AreBounded (function_of table) contracts.deployed.now contracts.bounds.now

-- the frame of a call
abbrev pub call_frame : Invocation → ℕ → Frame
call_frame i height = record { contract = i.contract.now; sender = person i.common.now.sender; caller = person i.common.now.sender; height = height }

-- the surroundings of a call: no contract is being deployed, and the frame is its own
pub record IsAround (S : Scope) (i : Invocation) : Type 0 where
  pub opening : S.opening ≡ None
  pub framed : frame_seen S.frame.now ≡ call_frame i S.frame.now.height

-- the step of a call at a node
abbrev pub StepsTo : Costs → NodeSeen → Invocation → Stepped → Type 0
StepsTo costs node i s = call_step costs node i.common.now i.contract.now i.function.now i.args.now ≡ Some s

-- what the entry's limit leaves of the application of a function
abbrev pub call_limited : Scope → Function → Invocation → Run → Limited Tree
call_limited S f i run = limited (function_of S.costs.now) (purse_of i.common.now) (call_of S f i.args.now run.world.stack.top)

-- and its trace
abbrev pub call_told : Scope → Function → Invocation → Run → List Told
call_told S f i run = trace_of (function_of S.costs.now) (purse_of i.common.now) (call_of S f i.args.now run.world.stack.top)

-- how a call ends on a layer, under a table and at a height
pub record EndsCall (i : Invocation) (table : List CostFn) (height : ℕ) (texts : List Contract) (contracts : BoundedContracts) (run : Run) (called : Called) (run_after : Run) : Type 0 where
  pub steps : (known : List Known) → IsSoundWith contracts.deployed.now.contracts (seen_of run texts height) known →
      StepsTo (function_of table) (node_with known (seen_of run texts height)) i (ended_so called.ended (node_with known (seen_of run texts height)) run_after.world.stack.top)
  pub agrees : AgreesUnder (function_of table) contracts.deployed.now.contracts (seen_of run texts height) (call_entry i) called.ended.outcome run.cursor.claims.now called.agreement

-- what a call makes of the world
abbrev pub Calls : Invocation → List CostFn → ℕ → List Contract → BoundedContracts → Run → TxResult → Run → Type 0
Calls i table height texts contracts run result run_after =
    let entries = contracts.deployed.now.contracts in
    MakesSound (function_of table) entries (seen_of run texts height) (call_entry i) result entries (seen_of run_after texts height)

-- whether the claims of the run are its trace
abbrev pub AgreesWithCall : Invocation → List CostFn → ℕ → List Contract → BoundedContracts → Run → Audited → Type 0
AgreesWithCall i table height texts contracts run audited =
    AgreesUnder (function_of table) contracts.deployed.now.contracts (seen_of run texts height) (call_entry i) audited.result.outcome run.cursor.claims.now audited.agreement
