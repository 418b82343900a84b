use Rattle.std.proofs.Common.{refl, sym}
use Rattle.cl_claims.proofs.LineParts.{no_dots, no_end, no_start, span_so}
use Rattle.cl_claims.proofs.spelled.span_in.Goals as goal

pub returns-in_err-digits-clause-none : goal.returns-in_err-digits-clause-none
returns-in_err-digits-clause-none c = λ _. no_dots c.args.text.now (sym c.in_err-digits.ensures)

pub returns-in_err-start-clause-none : goal.returns-in_err-start-clause-none
returns-in_err-start-clause-none c = λ _. no_start c.args.text.now c.in_ok-digits.digits.now c.in_ok-digits.behind.now (sym c.in_ok-digits.ensures) (c.in_err-start.ensures.none refl)

pub returns-in_err-end-clause-none : goal.returns-in_err-end-clause-none
returns-in_err-end-clause-none c = λ _. no_end c.args.text.now c.in_ok-digits.digits.now c.in_ok-digits.behind.now (sym c.in_ok-digits.ensures) (c.in_err-end.ensures.none refl)

pub returns-clause-some : goal.returns-clause-some
returns-clause-some c = span_so c.args.text.now c.in_ok-digits.digits.now c.in_ok-digits.behind.now (record { start = c.in_ok-start.start; end = c.in_ok-end.end }) (sym c.in_ok-digits.ensures) c.in_ok-start.ensures.some c.in_ok-end.ensures.some
