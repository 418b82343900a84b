use Rattle.std.proofs.Common.{◌≡◌, drop}
use Rattle.cl_values.specs.Natives.{all_equal}
use Rattle.cl_apply.proofs.equality.all_equal.Given as goal

abbrev pub invariant-loop-other : goal.invariant-loop-other
invariant-loop-other l = all_equal l.first l.others ≡ all_equal l.first (drop l.other-index l.others)
