use Rattle.std.proofs.Common.{◌≡◌, ◌+◌, length, true}
use Rattle.cl_sexpr.specs.Quote.{characters}
use Rattle.cl_sexpr.proofs.Quotes.{with_front}
use Rattle.cl_sexpr.proofs.quote.unicode.Given as goal

abbrev pub invariant-loop-rest : goal.invariant-loop-rest
invariant-loop-rest l = (characters true l.place 0 l.bytes ≡ with_front l.text.items (characters true l.at 0 l.rest)) × (l.at + length l.rest ≡ l.place + length l.bytes)

abbrev pub decreases-loop-rest : goal.decreases-loop-rest
decreases-loop-rest l = length l.rest
