use Rattle.std.proofs.Common.{◌≡◌, ◌++◌, map, take}
use Rattle.cl_c32.specs.Alphabet.{character_of}
use Rattle.cl_c32.proofs.codec.push_digits.Given as goal

abbrev pub invariant-loop-digit : goal.invariant-loop-digit
invariant-loop-digit l = l.text ≡ l.initial.text ++ map character_of (take l.digit-index l.digits)
