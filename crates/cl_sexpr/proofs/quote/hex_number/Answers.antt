use Rattle.std.proofs.Common.{arith, ◌+◌, ap, ◌∙◌}
use Rattle.std.proofs.lemmas.List.{take_all}
use Rattle.cl_sexpr.specs.Quote.{hex_number}
use Rattle.cl_sexpr.proofs.Digits.{hex_more, hex_front}
use Rattle.cl_sexpr.proofs.quote.hex_number.Goals as goal

pub returns-in_err-checked_mul : goal.returns-in_err-checked_mul
returns-in_err-checked_mul c =
    rw c.from_residual.ensures (λ small. c.in_err-checked_mul.ensures (omega (arith, hex_more c.args.digits.now c.loop-digit.digit-index (omega arith), hex_front c.args.digits.now (c.loop-digit.digit-index + 1), c.loop-digit.invariant.0)))

pub returns-in_err-value : goal.returns-in_err-value
returns-in_err-value c =
    rw c.from_residual-in_err-value.ensures (λ small. c.in_err-value.ensures (omega (arith, c.in_ok-checked_mul.ensures.1, c.hex_value.ensures, hex_more c.args.digits.now c.loop-digit.digit-index (omega arith), hex_front c.args.digits.now (c.loop-digit.digit-index + 1), c.loop-digit.invariant.0)))

pub returns : goal.returns
returns c =
    let e = c.loop-digit.invariant.0 ∙ ap hex_number (take_all c.loop-digit.digit-index c.args.digits.now (omega arith)) in
    (omega (arith, e, c.loop-digit.invariant.1), e)
