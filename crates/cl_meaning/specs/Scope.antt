-- What an expression stands in: the deployed contracts, the frame, and the values of the bound names; and how its parts are taken.
use Rattle.std.specs.Prelude.{ℕ, ◌+◌, List, [], ◌∷◌, ◌++◌, Option}
use Rattle.cl_c32.specs.declared.principal.Principal.{Principal}
use Rattle.cl_shapes.specs.declared.name.CostName.TheVariants.{Bind}
use Rattle.cl_sexpr.specs.declared.sexpr.Span.{Span}
use Rattle.cl_sexpr.specs.Tree.{Tree}
use Rattle.cl_values.specs.Tree.{Tree as Val}
use Rattle.cl_values.specs.Wire.{size_of}
use Rattle.cl_forms.specs.Heads.{Row}
use Rattle.cl_events.specs.State.{State}
use Rattle.cl_meaning.specs.Answers.{Answer, give, and_then, charged}
use Rattle.cl_meaning.specs.Deployed.{Contract, Deployed, Function, contract_at}

-- the contract whose code is evaluated, the sender of the transaction, the caller of the contract, and the height of the block
pub record Frame : Type 0 where
  pub contract : Principal
  pub sender : Principal
  pub caller : Principal
  pub height : ℕ

-- the values of the bound names; of one name the first counts
abbrev pub BoundValues : Type 0
BoundValues = List (List ℕ × Val)

pub record Scope : Type 0 where
  pub deployed : Deployed
  pub frame : Frame
  pub bound : BoundValues

-- the contract whose code is evaluated
abbrev pub home : Scope → Option Contract
home S = contract_at S.frame.contract S.deployed

-- one more bound name
abbrev pub binding : List ℕ → Val → Scope → Scope
binding x v S = record S { bound = S.bound ++ (x, v) ∷ [] }

abbrev pub with_bound : BoundValues → Scope → Scope
with_bound bound S = record S { bound = bound }

abbrev pub in_frame : Frame → Scope → Scope
in_frame frame S = record S { frame = frame }

-- sender and caller are the contract itself
abbrev pub as_contract : Frame → Frame
as_contract F = record F { sender = F.contract; caller = F.contract }

-- another contract is called, by this one
abbrev pub called : Principal → Frame → Frame
called target F = record F { contract = target; caller = F.contract }

-- what is applied to values: a function, or the native of a row, given by its name at a place of the text
pub data Callee : Type 0 where
  OwnFunction : Function → Callee
  ByName : Row → Span → Callee

-- an expression, and an application, one level down
abbrev pub Take : Type 0
Take = Scope → Tree → State → Answer Val

abbrev pub Enter : Type 0
Enter = Scope → Callee → List Val → State → Answer Val

-- the parts from the left, each on the state that the one before it left
unfoldable pub parts : Take → Scope → List Tree → State → Answer (List Val)
parts take S [] s = give [] s
parts take S (e ∷ es) s = and_then (take S e s) (λ v t. and_then (parts take S es t) (λ vs u. give (v ∷ vs) u))

-- the sum of the sizes
abbrev pub sizes : List Val → ℕ
sizes [] = 0
sizes (v ∷ vs) = size_of v + sizes vs

-- a part with one more name, whose binding is charged first
abbrev pub taken_with : Take → Scope → List ℕ → Val → Tree → State → Answer Val
taken_with take S x v e s = charged Bind (size_of v) (take (binding x v S) e s)
