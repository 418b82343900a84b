-- The surroundings of an expression, as the meaning has them.
use Rattle.std.specs.Prelude.{◌∷◌, List, map, Option, Some, None, option_map, option_copied}
use Rattle.std.specs.Borrow.{Bor}
use Rattle.cl_forms.specs.NativeRows.{row_seen}
use Rattle.cl_meaning.specs.Deployed.{Contract, Deployed, Function}
use Rattle.cl_meaning.specs.Scope.{Frame, Scope, BoundValues, Callee, OwnFunction, ByName}
use Rattle.cl_audit_steps.specs.declared.scope.Frame.{Frame as FrameOfCode}
use Rattle.cl_audit_steps.specs.declared.scope.Contract.{Contract as ContractOfCode}
use Rattle.cl_audit_steps.specs.declared.scope.Function.{Function as FunctionOfCode}
use Rattle.cl_audit_steps.specs.declared.scope.Callee.{Callee as CalleeOfCode}
use Rattle.cl_audit_steps.specs.declared.scope.Callee.TheVariants as code
use Rattle.cl_audit_steps.specs.declared.scope.Scope.{Scope as ScopeOfCode}

abbrev pub frame_seen : FrameOfCode → Frame
frame_seen f = record { contract = f.contract; sender = f.sender; caller = f.caller; height = f.height }

abbrev pub contract_seen : ContractOfCode → Contract
contract_seen c = record { principal = c.principal; version = c.version; forms = c.forms; source_length = c.source_length; constants = c.constants }

abbrev pub some_contract : Option (Bor ContractOfCode) → Option Contract
some_contract c = option_map contract_seen (option_copied c)

abbrev pub contracts_seen : List ContractOfCode → Deployed
contracts_seen cs = map contract_seen cs

-- the contract that is being deployed, before the deployed ones
abbrev pub with_opening : Option (Bor ContractOfCode) → Deployed → Deployed
with_opening None W = W
with_opening (Some c) W = contract_seen c.now ∷ W

abbrev pub seen : ScopeOfCode → BoundValues → Scope
seen S bound = record { deployed = with_opening S.opening (contracts_seen S.contracts.now.contracts); frame = frame_seen S.frame.now; bound = bound }

abbrev pub function_seen : FunctionOfCode → Function
function_seen f = record { name = f.name.now; access = f.access; params = f.params.now; body = f.body.now }

abbrev pub some_function : Option FunctionOfCode → Option Function
some_function None = None
some_function (Some f) = Some (function_seen f)

abbrev pub callee_seen : CalleeOfCode → Callee
callee_seen (code.Function f) = OwnFunction (function_seen f)
callee_seen (code.Native row at) = ByName (row_seen row) at

abbrev pub some_callee : Option CalleeOfCode → Option Callee
some_callee None = None
some_callee (Some f) = Some (callee_seen f)
