use Rattle.std.proofs.Common.{ℕ, ◌<◌, get_or}
use Rattle.cl_values.specs.Tree.{Tree}
use Rattle.cl_values.specs.Valid.{IsVal}
use Rattle.cl_nodes.proofs.parts.are_valid.Given as goal

abbrev pub invariant-loop-arg : goal.invariant-loop-arg
invariant-loop-arg l = (k : ℕ) (d : Tree) → k < l.arg-index → IsVal (get_or l.args k d)
