use Rattle.std.proofs.Common.{◌≡◌, ◌-◌, ◌++◌, map, take, replicate}
use Rattle.cl_c32.specs.Alphabet.{digit_value}
use Rattle.cl_c32.proofs.codec.digits_of.Given as goal

abbrev pub invariant-loop-i : goal.invariant-loop-i
invariant-loop-i l = l.digits ≡ map digit_value (take l.i l.characters) ++ replicate (47 - l.i) 0
