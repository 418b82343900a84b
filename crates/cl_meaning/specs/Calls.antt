-- Calls, and what an application of a function or of a native to values is.
use Rattle.std.specs.Prelude.{ℕ, ◌&&◌, ◌||◌, Bool, true, false, List, [], ◌∷◌, ◌++◌, length, if◌then◌else◌, option_and_then, Option, Some, None}
use Rattle.cl_types.specs.Types.{PlainType}
use Rattle.cl_types.specs.declared.sized.Access.{Access}
use Rattle.cl_types.specs.declared.sized.Access.TheVariants.{Public}
use Rattle.cl_c32.specs.declared.principal.Principal.{Principal}
use Rattle.cl_shapes.specs.declared.name.CostName.{CostName}
use Rattle.cl_shapes.specs.declared.name.CostName.TheVariants.{Control, Call, Bind, ContractCall as ContractCallCost}
use Rattle.cl_sexpr.specs.Tree.{Tree, LeafAt, Named}
use Rattle.cl_values.specs.Tree.{Tree as Val, BoolV, ResponseV}
use Rattle.cl_values.specs.Wire.{size_of}
use Rattle.cl_forms.specs.declared.head.Head.{Head}
use Rattle.cl_forms.specs.declared.head.Head.TheVariants.{OnValues, And, Or}
use Rattle.cl_forms.specs.Shapes.{principal_named, open_to_others}
use Rattle.cl_events.specs.State.{State, is_principal}
use Rattle.cl_meaning.specs.Answers.{Answer, give, wrong, charged, and_then, returning, ending, with_known}
use Rattle.cl_meaning.specs.Deployed.{Contract, Function, contract_at, function_in, function_of}
use Rattle.cl_meaning.specs.Scope.{Scope, BoundValues, home, called, in_frame, with_bound, Callee, OwnFunction, ByName, Take, Enter, parts}
use Rattle.cl_meaning.specs.Values.{on_values}

-- ---- calls

-- a function of the contract
unfoldable pub call_form : List ℕ → Take → Enter → Scope → List Tree → State → Answer Val
call_form x take enter S es s = and_then (parts take S es s) (λ vs. with_known (function_of x (home S)) (λ f. enter S (OwnFunction f) vs))

-- a function that other contracts may call
abbrev pub callable : Function → Option Function
callable f = open_to_others f.access f

-- the principal that an item names as a literal
abbrev pub target_of : Scope → Tree → Option Principal
target_of S (LeafAt leaf at) = principal_named S.frame.contract leaf
target_of S e = None

-- a deployed contract other than this one
abbrev pub other_contract : Scope → Principal → Option Contract
other_contract S p = if is_principal p S.frame.contract then None else contract_at p S.deployed

-- the target's function, in the target, called by this contract; the target's source is charged first
abbrev pub enter_there : Enter → Scope → List ℕ → List Val → Contract → State → Answer Val
enter_there enter S x vs c s =
    charged ContractCallCost c.source_length
    (with_known (option_and_then callable (function_in x c.forms)) (λ f. enter (in_frame (called c.principal S.frame) S) (OwnFunction f) vs) s)

unfoldable pub contract_call_form : Take → Enter → Scope → List Tree → State → Answer Val
contract_call_form take enter S (c ∷ LeafAt (Named x) at ∷ es) s =
    and_then (parts take S es s) (λ vs. with_known (option_and_then (other_contract S) (target_of S c)) (enter_there enter S x vs))
contract_call_form take enter S es s = wrong s

-- ---- the application of a function

-- where a public function answers err, the state is the one before it
abbrev pub closing : Access → State → Val → State → Answer Val
closing Public before (ResponseV true v) s = give (ResponseV true v) s
closing Public before (ResponseV false v) s = give (ResponseV false v) before
closing Public before v s = wrong s
closing access before v s = give v s

-- the parameters bound to the values, each charged by its size, and then what follows
unfoldable pub bound_to : (BoundValues → State → Answer Val) → BoundValues → List (List ℕ × PlainType) → List Val → State → Answer Val
bound_to body bound [] [] s = body bound s
bound_to body bound (p ∷ ps) (v ∷ vs) s = charged Bind (size_of v) (bound_to body (bound ++ (p.0, v) ∷ []) ps vs s)
bound_to body bound ps vs s = wrong s

-- the body, whose early return is the function's return
abbrev pub body_in : Take → Scope → Function → BoundValues → State → Answer Val
body_in take S f bound s = and_then (returning (take (with_bound bound S) f.body s)) (closing f.access s)

unfoldable pub function_form : Take → Scope → Function → List Val → State → Answer Val
function_form take S f vs s = charged Call (length vs) (bound_to (body_in take S f) [] f.params vs s)

-- ---- the application of a native by name

abbrev pub and_truth : (Bool → Bool → Bool) → Bool → Option Bool → Option Bool
and_truth op b None = None
and_truth op b (Some c) = Some (op b c)

-- truth values joined by an operation, where all are truth values
abbrev pub truths : (Bool → Bool → Bool) → Bool → List Val → Option Bool
truths op start [] = Some start
truths op start (BoolV b ∷ vs) = and_truth op b (truths op start vs)
truths op start (v ∷ vs) = None

abbrev pub truth_value : Option Bool → State → Answer Val
truth_value None s = wrong s
truth_value (Some b) s = give (BoolV b) s

-- whether all of the values are true, or some of them; charged by their number
abbrev pub all_true : List Val → State → Answer Val
all_true vs s = charged Control (length vs) (truth_value (truths (λ b c. b && c) true vs) s)

abbrev pub some_true : List Val → State → Answer Val
some_true vs s = charged Control (length vs) (truth_value (truths (λ b c. b || c) false vs) s)

-- a native given by name, charged as its row says, on the values
unfoldable pub native_form : Head → CostName → List Val → State → Answer Val
native_form (OnValues native) cost vs s = on_values native cost vs s
native_form And cost vs s = all_true vs s
native_form Or cost vs s = some_true vs s
native_form head cost vs s = wrong s

-- the application of a function or native, whose body is taken one level down; a native ends at the place of its name
unfoldable pub application : Take → Scope → Callee → List Val → State → Answer Val
application take S (OwnFunction f) vs s = function_form take S f vs s
application take S (ByName row at) vs s = ending at (native_form row.head row.cost vs s)
