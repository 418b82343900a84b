use Rattle.std.proofs.Common.{◌≡◌, false, true, sym, ◌∙◌}
use Rattle.std.proofs.lemmas.Slice.Eq.{bytes_eq-Decides}
use Rattle.cl_claims.proofs.LineParts.{no_wide, not_digits, not_so_spelled, too_wide}
use Rattle.cl_claims.proofs.spelled.number_in.Goals as goal

pub returns-then-not-are_digits-clause-none : goal.returns-then-not-are_digits-clause-none
returns-then-not-are_digits-clause-none c = λ _. not_digits c.args.digits.now (sym c.are_digits.ensures ∙ c.if-not-are_digits.true)

pub returns-in_err-value-clause-none : goal.returns-in_err-value-clause-none
returns-in_err-value-clause-none c = λ _. no_wide c.args.digits.now c.in_err-value.ensures

pub returns-then-value-gt4294967295-clause-none : goal.returns-then-value-gt4294967295-clause-none
returns-then-value-gt4294967295-clause-none c = λ _. too_wide c.args.digits.now c.in_ok-value.value c.in_ok-value.ensures.1 c.if-value-gt4294967295.true

pub returns-else-eq-clause-none : goal.returns-else-eq-clause-none
returns-else-eq-clause-none c =
    λ _. not_so_spelled c.args.digits.now c.in_ok-value.value c.in_ok-value.ensures.1 (λ same.
    let spelled = c.as_bytes.ensures.value ∙ c.format.ensures.text ∙ same in
    let yes : c.eq.result ≡ true = c.eq.ensures ∙ (bytes_eq-Decides c.as_bytes.result.now c.args.digits.now).1 spelled in
    let no : c.eq.result ≡ false = c.if-eq.false in
    cc)
