-- What a transaction evaluates: an expression at the top of a contract that is deployed, or a call of a function.
use Rattle.std.specs.Prelude.{ℕ, List, [], ◌∷◌}
use Rattle.cl_sexpr.specs.Tree.{Tree}
use Rattle.cl_values.specs.Tree.{Tree as Val}
use Rattle.cl_events.specs.State.{State}
use Rattle.cl_meaning.specs.Answers.{Answer}
use Rattle.cl_meaning.specs.Deployed.{Contract, Deployed, Function}
use Rattle.cl_meaning.specs.Scope.{Frame, OwnFunction}
use Rattle.cl_meaning.specs.Meaning.{means, applied}

-- how deep an evaluation goes, calls included
abbrev pub most_depth : ℕ
most_depth = 256

-- an expression at the top of a contract, which sees the contract's own functions and its constants so far
unfoldable pub top : Deployed → Frame → Contract → Tree → State → Answer Val
top W F c e s = means most_depth (record { deployed = c ∷ W; frame = F; bound = [] }) e s

-- a call of a function of the frame's contract
unfoldable pub call_from : Deployed → Frame → Function → List Val → State → Answer Val
call_from W F f vs s = applied most_depth (record { deployed = W; frame = F; bound = [] }) (OwnFunction f) vs s
