-- What there is to a call that is made.
use Rattle.std.specs.Prelude.{◌≡◌, Bool, true, false, List, length, Some, None}
use Rattle.cl_types.specs.declared.sized.Access.{Access}
use Rattle.cl_types.specs.declared.sized.Access.TheVariants.{Private}
use Rattle.cl_values.specs.Tree.{Tree, ResponseV}
use Rattle.cl_events.specs.State.{State, at_rest}
use Rattle.cl_meaning.specs.Deployed.{Function}
use Rattle.cl_meaning.specs.Limits.{Limited}
use Rattle.cl_file.specs.declared.entry.Common.{Common}
use Rattle.cl_tx.specs.Nodes.{NodeSeen, Stepped, call_ended, nothing_told, result_of, stays}
use Rattle.cl_tx.specs.Step.{first_misfit}
use Rattle.cl_nodes.specs.declared.ending.Ended.{Ended}

-- ---- calls

-- a function may be called from outside with these arguments
pub record MayBeCalled (f : Function) (args : List Tree) : Type 0 where
  pub not_private : f.access ≡ Private → ⊥
  pub as_many : length args ≡ length f.params
  pub fitting : first_misfit 0 f.params args ≡ None

-- a value is ok or err
abbrev pub IsResponse : Tree → Type 0
IsResponse (ResponseV good v) = Unit {0}
IsResponse v = ⊥

-- something comes of what a limit leaves of the evaluation of a function of this access, for this entry
pub record Comes (common : Common) (access : Access) (l : Limited Tree) : Type 0 where
  pub node : NodeSeen
  pub stepped : Stepped
  pub ended : call_ended common access node l ≡ Some stepped

-- ---- ends

-- whether the node moves on to the state on the layer, with the events in it
abbrev pub ended_by : Bool → Ended → NodeSeen → State → Stepped
ended_by true e node s = record { node = record node { state = at_rest s }; result = result_of nothing_told e.outcome e.cost s.events }
ended_by false e node s = stays node nothing_told e.outcome e.cost

-- what a call that ended so makes of a node, with this state on its layer
abbrev pub ended_so : Ended → NodeSeen → State → Stepped
ended_so e node s = ended_by e.kept e node s
