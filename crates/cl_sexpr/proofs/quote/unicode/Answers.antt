use Rattle.std.proofs.Common.{ap, sym, ◌∙◌, arith, ◌+◌, length, true}
use Rattle.cl_sexpr.specs.Quote.{characters}
use Rattle.cl_sexpr.proofs.Quotes.{with_front, characters_more}
use Rattle.cl_sexpr.proofs.quote.unicode.Goals as goal

pub loop-rest-preserved : goal.loop-rest-preserved
loop-rest-preserved c =
    let more = characters_more true c.loop-rest.text.items c.loop-rest.at c.loop-rest.rest.now c.split_byte-first.result.0 c.split_byte-first.result.1.now c.in-Ok.character c.in-Ok.size c.split_byte-first.ensures c.in-Ok.ensures.value c.in-Ok.ensures.some c.in-Ok.ensures.within in (
      c.loop-rest.invariant.0 ∙ (more ∙ λ i. with_front (sym c.in_ok-push-in-Ok.ensures.items i) (characters true (c.loop-rest.at + c.in-Ok.size) 0 (sym c.split_at.ensures.back i))),
      omega (arith, c.loop-rest.invariant.1, ap length c.split_byte-first.ensures, c.split_at.ensures.back_len, c.in-Ok.ensures.some, c.in-Ok.ensures.within),
    )
