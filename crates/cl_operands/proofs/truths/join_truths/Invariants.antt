use Rattle.std.proofs.Common.{◌≡◌, drop, option_map}
use Rattle.cl_meaning.specs.Calls.{truths}
use Rattle.cl_operands.specs.Truths.{join}
use Rattle.cl_operands.proofs.truths.join_truths.Given as goal

abbrev pub invariant-loop-value : goal.invariant-loop-value
invariant-loop-value l = option_map (join l.all l.so_far) (truths (join l.all) l.all (drop l.value-index l.values)) ≡ truths (join l.all) l.all l.values
