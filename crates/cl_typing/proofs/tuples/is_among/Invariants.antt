use Rattle.std.proofs.Common.{◌≡◌, drop}
use Rattle.cl_types.specs.Types.{fields}
use Rattle.cl_types.specs.Sized.{is_among}
use Rattle.cl_typing.proofs.tuples.is_among.Given as goal

abbrev pub invariant-loop-field : goal.invariant-loop-field
invariant-loop-field l = is_among l.key (fields (drop l.field-index l.row)) ≡ is_among l.key (fields l.row)
