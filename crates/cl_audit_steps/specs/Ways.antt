-- What natives compute of values, as the end of a node.
use Rattle.std.specs.Prelude.{ℕ, Bool, nat_le, if◌then◌else◌, List, length, Result, Ok, Err}
use Rattle.cl_shapes.specs.declared.name.CostName.TheVariants.{Control}
use Rattle.cl_values.specs.Computed.{Computed, Gives}
use Rattle.cl_values.specs.Tree.{Tree as Val, NoneV, SomeV}
use Rattle.cl_forms.specs.declared.head.Head.{Head}
use Rattle.cl_forms.specs.declared.head.Head.TheVariants as heads
use Rattle.cl_events.specs.State.{State}
use Rattle.cl_operands.specs.Truths.{join}
use Rattle.cl_meaning.specs.Answers.{Answer, stop, outcome_of, charged}
use Rattle.cl_meaning.specs.Calls.{truths, truth_value}
use Rattle.cl_meaning.specs.Scope.{Scope}
use Rattle.cl_audit_steps.specs.declared.step.Last.{Last}
use Rattle.cl_audit_steps.specs.declared.values.NativeKind.{NativeKind}
use Rattle.cl_audit_steps.specs.declared.values.NativeKind.TheVariants as kinds
use Rattle.cl_audit_steps.specs.Steps.{IsLast}

-- a node ends as a native's value says
abbrev pub IsComputed : {E : Type 0} → Computed → Result Last E → Type 0
IsComputed c (Ok l) = (S : Scope) → IsLast S (λ take enter s. stop (outcome_of c) s) l
IsComputed c (Err e) = Unit {0}

-- a value of so many entries as an optional one, which is none where these are too many
abbrev pub held : ℕ → ℕ → Val → Computed
held most count v = Gives (if nat_le count most then SomeV v else NoneV)

-- which natives can be given by name
abbrev pub kind_of : Head → NativeKind
kind_of (heads.OnValues n) = kinds.OnValues n
kind_of heads.And = kinds.And
kind_of heads.Or = kinds.Or
kind_of h = kinds.Other

-- whether all of the values are true, or some of them; charged by their number
abbrev pub joined_form : Bool → List Val → State → Answer Val
joined_form all vs s = charged Control (length vs) (truth_value (truths (join all) all vs) s)
