use Rattle.std.proofs.Common.{List, drop}
use Rattle.cl_rules.specs.Acceptance.{calls_public}
use Rattle.cl_rules.specs.Context.{Context, Known}
use Rattle.cl_code.specs.Typed.{typeds, weight_of, weights_of}
use Rattle.cl_contracts.specs.Standings.{Knows}
use Rattle.cl_readonly.specs.Writing.{AreFunctions}
use Rattle.cl_readonly.proofs.Walking.{LeftOf}
use Rattle.cl_readonly.proofs.walk.+writing.Given as goal

abbrev pub invariant-any_writes-loop-part : goal.invariant-any_writes-loop-part
invariant-any_writes-loop-part l = (known : List Known) (G : Context) → Knows l.deployed known → AreFunctions G l.writing.keys → LeftOf l.writing.keys (calls_public known l.own) G l.parts (drop l.part-index l.parts)

abbrev pub decreases-tree_writes : goal.decreases-tree_writes
decreases-tree_writes l = weight_of l.code.now

abbrev pub decreases-any_writes : goal.decreases-any_writes
decreases-any_writes l = weights_of (typeds l.parts.now)
