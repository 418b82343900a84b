use Rattle.std.proofs.Common.{◌≡◌, ◌+◌, ◌*◌, ◌≤◌, drop}
use Rattle.cl_meaning.specs.Scope.{sizes}
use Rattle.cl_frames.proofs.payment.total_size.Given as goal

abbrev pub invariant-loop-value : goal.invariant-loop-value
invariant-loop-value l = record {
  so_far : l.total + sizes (drop l.value-index l.values) ≡ sizes l.values;
  small : l.total ≤ 1048576 * l.value-index;
}
