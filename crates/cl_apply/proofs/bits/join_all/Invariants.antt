use Rattle.std.proofs.Common.{◌≡◌, drop}
use Rattle.cl_arith.specs.Numbers.{kind_of}
use Rattle.cl_values.specs.Arithmetic.{on_numbers, of_kind}
use Rattle.cl_apply.specs.Joining.{joining_of, join_from}
use Rattle.cl_apply.proofs.bits.join_all.Given as goal

abbrev pub invariant-loop-value : goal.invariant-loop-value
invariant-loop-value l = record {
  so_far :
      on_numbers (join_from (joining_of l.joining) l.first) (of_kind (kind_of l.first) l.values)
      ≡ on_numbers (join_from (joining_of l.joining) l.total) (of_kind (kind_of l.first) (drop l.value-index l.values));
  kind : kind_of l.total ≡ kind_of l.first;
}
