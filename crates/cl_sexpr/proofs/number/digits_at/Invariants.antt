use Rattle.std.proofs.Common.{◌≡◌, ◌<◌, ◌^◌, take, true}
use Rattle.std.specs.List.{list_all}
use Rattle.cl_types.specs.Name.{is_digit}
use Rattle.cl_sexpr.specs.Leaf.{value_of}
use Rattle.cl_sexpr.proofs.number.digits_at.Given as goal

abbrev pub invariant-loop-i : goal.invariant-loop-i
invariant-loop-i l = (l.value ≡ value_of (take l.i l.bytes)) × (l.value < 2 ^ 64) × (list_all is_digit (take l.i l.bytes) ≡ true)
