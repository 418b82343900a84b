use Rattle.std.proofs.Common.{◌≡◌, drop}
use Rattle.cl_types.specs.Types.{fields}
use Rattle.cl_types.specs.Sized.{AreSized}
use Rattle.cl_rules.specs.NativeTypes.{type_of_key}
use Rattle.cl_typing.proofs.tuples.under.Given as goal

abbrev pub invariant-loop-field : goal.invariant-loop-field
invariant-loop-field l = record {
  left : type_of_key l.key (fields (drop l.field-index l.row)) ≡ type_of_key l.key (fields l.row);
  sized : AreSized (fields (drop l.field-index l.row));
}
