use Rattle.std.proofs.Common.{◌≡◌, ◌<◌, ◌^◌, take}
use Rattle.cl_sexpr.specs.Quote.{hex_number}
use Rattle.cl_sexpr.proofs.quote.hex_number.Given as goal

abbrev pub invariant-loop-digit : goal.invariant-loop-digit
invariant-loop-digit l = (l.value ≡ hex_number (take l.digit-index l.digits)) × (l.value < 2 ^ 32)
