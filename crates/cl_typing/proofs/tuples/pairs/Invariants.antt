use Rattle.std.proofs.Common.{◌≡◌, ◌≤◌, true, map, drop, length, ◌++◌}
use Rattle.cl_types.specs.Types.{fields, depths_of}
use Rattle.cl_types.specs.Sized.{everywhere_in, keys_rise}
use Rattle.cl_typing.specs.Tuples.{paired}
use Rattle.cl_typing.proofs.tuples.pairs.Given as goal

abbrev pub invariant-loop-i : goal.invariant-loop-i
invariant-loop-i l = record {
  count : length l.keys ≡ length l.types;
  paired : l.row.items ++ paired (drop l.i l.keys) (map (λ t. t.now) (drop l.i l.types)) ≡ paired l.keys (map (λ t. t.now) l.types);
  rise : everywhere_in keys_rise (fields l.row.items) ≡ true;
  depth : depths_of (fields l.row.items) ≤ 32;
}
