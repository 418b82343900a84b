-- Calls of functions that are found.
use Rattle.std.specs.Prelude.{◌≡◌, ℕ, true, List, map, Some}
use Rattle.cl_types.specs.Types.{PlainType}
use Rattle.cl_shapes.specs.Limits.{Purse}
use Rattle.cl_values.specs.Tree.{Tree as Val}
use Rattle.cl_costs.specs.Tables.{function_of as cost_function}
use Rattle.cl_state.specs.Stack.{Seen as World}
use Rattle.cl_code.specs.Typed.{goes_by}
use Rattle.cl_contracts.specs.Seen.{IsEntry, contract_seen, deployed_seen, forms_of, function_seen}
use Rattle.cl_meaning.specs.Answers.{Answer}
use Rattle.cl_meaning.specs.Deployed.{contract_at, function_in}
use Rattle.cl_meaning.specs.Limits.{Costs}
use Rattle.cl_meaning.specs.Top.{call_from}
use Rattle.cl_frames.specs.Homes.{frame_seen}
use Rattle.cl_frames.specs.Sound.{IsReturnOf, SpendsWithin}
use Rattle.cl_runs.specs.declared.call.Called.{Called}

-- the costs of a call
abbrev pub costs_of : Called → Costs
costs_of c = cost_function c.costs.now

-- the types of the function's parameters
abbrev pub types_of : Called → List PlainType
types_of c = map (λ (param : List ℕ × PlainType). param.1) c.function.now.params.items

-- what the function's application to values means, on the top state of a world
abbrev pub call_of : Called → List Val → World → Answer Val
call_of c args world = call_from (deployed_seen c.deployed.now) (frame_seen c.frame.now) (function_seen c.function.now) args world.stack.top

-- the contract is the one that is deployed under the frame's principal, and the function is the contract's
pub record IsCalled (c : Called) : Type 0 where
  pub there : contract_at c.frame.now.contract (deployed_seen c.deployed.now) ≡ Some (contract_seen (c.frame.now.contract, c.contract.now))
  pub entry : IsEntry (c.frame.now.contract, c.contract.now)
  pub function : function_in c.function.now.name (forms_of c.contract.now.checked) ≡ Some (function_seen c.function.now)
  pub goes : goes_by c.contract.now.checked.version c.function.now.body ≡ true

-- a value is of the type that callers see returned by the function
abbrev pub IsReturned : Called → Val → Type 0
IsReturned c v = IsReturnOf (deployed_seen c.deployed.now) c.frame.now.contract c.function.now.name v

-- what is spent is within the bound of the function that callers see
abbrev pub SpendsForCall : Called → Purse → Purse → Type 0
SpendsForCall c before after = SpendsWithin (costs_of c) (deployed_seen c.deployed.now) c.frame.now.contract c.function.now.name before after
