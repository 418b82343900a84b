use Rattle.std.proofs.Common.{◌≡◌, drop}
use Rattle.cl_types.specs.Types.{fields}
use Rattle.cl_types.specs.Sized.{rises, rises_from}
use Rattle.cl_types.proofs.keys.do_rise.Given as goal

abbrev pub invariant-loop-field : goal.invariant-loop-field
invariant-loop-field l = rises (fields l.row) ≡ rises_from l.last (fields (drop l.field-index l.rest))
