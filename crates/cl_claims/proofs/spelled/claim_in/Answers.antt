use Rattle.std.proofs.Common.{refl, sym}
use Rattle.cl_claims.proofs.LineParts.{claim_so, no_entry, no_number, no_places, no_span, no_value}
use Rattle.cl_claims.proofs.spelled.claim_in.Goals as goal

pub returns-in_default-clause-none : goal.returns-in_default-clause-none
returns-in_default-clause-none c = λ _. no_entry c.args.line.now (sym c.in_default.ensures)

pub returns-in_default-split_at-clause-none : goal.returns-in_default-split_at-clause-none
returns-in_default-split_at-clause-none c = λ _. no_places c.args.line.now c.in-Some.number.now c.in-Some.behind.now (sym c.in-Some.ensures) (sym c.in_default-split_at.ensures)

pub returns-in_default-number_in-clause-none : goal.returns-in_default-number_in-clause-none
returns-in_default-number_in-clause-none c = λ _. no_number c.args.line.now c.in-Some.number.now c.in-Some-split_at.places.now c.in-Some-split_at.digits.now (record { behind = c.in-Some.behind.now; first = sym c.in-Some.ensures; second = sym c.in-Some-split_at.ensures }) (c.in_default-number_in.ensures.none refl)

pub returns-in_default-span_in-clause-none : goal.returns-in_default-span_in-clause-none
returns-in_default-span_in-clause-none c = λ _. no_span c.args.line.now c.in-Some.number.now c.in-Some-split_at.places.now c.in-Some-split_at.digits.now (record { behind = c.in-Some.behind.now; first = sym c.in-Some.ensures; second = sym c.in-Some-split_at.ensures }) (c.in_default-span_in.ensures.none refl)

pub returns-in_default-2-clause-none : goal.returns-in_default-2-clause-none
returns-in_default-2-clause-none c = λ _. no_value c.args.line.now c.in-Some.number.now c.in-Some-split_at.places.now c.in-Some-split_at.digits.now (record { behind = c.in-Some.behind.now; first = sym c.in-Some.ensures; second = sym c.in-Some-split_at.ensures }) (c.in_ok-value.ensures.none c.in_default-2.is)

pub returns-clause-some : goal.returns-clause-some
returns-clause-some c =
    claim_so c.args.line.now c.in-Some.number.now c.in-Some-split_at.places.now c.in-Some-split_at.digits.now (record { behind = c.in-Some.behind.now; first = sym c.in-Some.ensures; second = sym c.in-Some-split_at.ensures }) c.in-Some-number_in.entry c.in-Some-span_in.span c.in-Some-2.value c.in-Some-number_in.ensures.some c.in-Some-span_in.ensures.some (rw c.in-Some-2.is at c.in_ok-value.ensures.some)
