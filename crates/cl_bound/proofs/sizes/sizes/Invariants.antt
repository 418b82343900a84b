use Rattle.std.proofs.Common.{◌≡◌, ◌≤◌, ◌+◌, ◌*◌, drop, map}
use Rattle.cl_rules.specs.Verdicts.{sizes_of}
use Rattle.cl_code.specs.Typed.{type_of}
use Rattle.cl_bound.proofs.sizes.sizes.Given as goal

abbrev pub invariant-loop-part : goal.invariant-loop-part
invariant-loop-part l = record {
  counted : sizes_of (map type_of l.parts) ≡ l.sum + sizes_of (map type_of (drop l.part-index l.parts));
  within : l.sum ≤ 1048576 * l.part-index;
}
