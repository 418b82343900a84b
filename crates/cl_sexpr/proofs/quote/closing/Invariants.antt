use Rattle.std.proofs.Common.{◌≡◌, drop, false}
use Rattle.cl_sexpr.specs.Quote.{closing}
use Rattle.cl_sexpr.proofs.Quotes.{plus}
use Rattle.cl_sexpr.proofs.quote.closing.Given as goal

abbrev pub invariant-loop-i : goal.invariant-loop-i
invariant-loop-i l = closing false l.bytes ≡ plus l.i (closing l.escaped (drop l.i l.bytes))
