use Rattle.std.proofs.Common.{◌+◌, ◌∙◌, ap, sym, drop, Bool, arith}
use Rattle.cl_sexpr.specs.Quote.{closing}
use Rattle.cl_sexpr.proofs.Quotes.{plus, closing_escaped, closing_more}
use Rattle.cl_sexpr.proofs.quote.closing.Goals as goal
use Rattle.cl_sexpr.proofs.quote.closing.Goals.{then-escaped, else-escaped+else-b-eq34}

pub loop-i-preserved : goal.loop-i-preserved
loop-i-preserved c =
    let bs = c.args.bytes.now in
    let i = c.loop-i.i in
    elim c.if-escaped.branch [
      | then-escaped w ↦ c.loop-i.invariant ∙ (ap (λ (e : Bool). plus i (closing e (drop i bs))) w.if-escaped.true ∙ (closing_escaped bs i (omega arith) ∙ ap (λ (e : Bool). plus (i + 1) (closing e (drop (i + 1) bs))) (sym w.escaped-is)))
      | else-escaped+else-b-eq34 w ↦ c.loop-i.invariant ∙ (ap (λ (e : Bool). plus i (closing e (drop i bs))) w.if-escaped.false ∙ (closing_more bs i (omega arith) w.if-b-eq34.false ∙ ap (λ (e : Bool). plus (i + 1) (closing e (drop (i + 1) bs))) (sym w.escaped-is)))
    ]
