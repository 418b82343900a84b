use Rattle.std.proofs.Common.{inl, inr, sym, arith}
use Rattle.cl_claims.proofs.Lined.{line_front, no_claim, no_line, too_high, too_low}
use Rattle.cl_claims.proofs.Parsing.{bad_claim, bad_end, claim_first, entry_high, entry_low}
use Rattle.cl_claims.proofs.reading.next_line.Goals as goal

pub returns-in_default-clause-none : goal.returns-in_default-clause-none
returns-in_default-clause-none c = λ _. no_line c.args.least c.args.entries c.args.text.now (sym c.in_default.ensures)

pub returns-in_default-2-clause-none : goal.returns-in_default-2-clause-none
returns-in_default-2-clause-none c = λ _. no_claim c.args.least c.args.entries c.args.text.now c.in-Some.line.now c.in-Some.behind.now (sym c.in-Some.ensures) (c.in_ok-claim.ensures.none c.in_default-2.is)

pub returns-then-claim-least-clause-none : goal.returns-then-claim-least-clause-none
returns-then-claim-least-clause-none c =
    let claim = c.in-Some-2.claim in
    let spelled = rw c.in-Some-2.is at c.in_ok-claim.ensures.some in
    λ _. elim c.then-claim-least.either [
      | inl low ↦ too_low c.args.least c.args.entries c.args.text.now c.in-Some.line.now c.in-Some.behind.now claim.entry claim.span claim.value (sym c.in-Some.ensures) spelled (omega arith) low
      | inr high ↦ too_high c.args.least c.args.entries c.args.text.now c.in-Some.line.now c.in-Some.behind.now claim.entry claim.span claim.value (sym c.in-Some.ensures) spelled (omega arith) high.1
    ]

pub returns-clause-text : goal.returns-clause-text
returns-clause-text c =
    let claim = c.in-Some-2.claim in
    line_front c.args.text.now c.in-Some.line.now c.in-Some.behind.now claim.entry claim.span claim.value (sym c.in-Some.ensures) (rw c.in-Some-2.is at c.in_ok-claim.ensures.some)

pub returns-in_default-clause-bad : goal.returns-in_default-clause-bad
returns-in_default-clause-bad c = λ _ some. bad_end c.args.least c.args.entries c.args.text.now (sym c.in_default.ensures) some

pub returns-in_default-2-clause-bad : goal.returns-in_default-2-clause-bad
returns-in_default-2-clause-bad c = λ _ _. bad_claim c.args.least c.args.entries c.args.text.now c.in-Some.line.now c.in-Some.behind.now (sym c.in-Some.ensures) (rw c.in_default-2.is at c.in_ok-claim.ensures.parsed)

pub returns-then-claim-least-clause-bad : goal.returns-then-claim-least-clause-bad
returns-then-claim-least-clause-bad c =
    let is = rw c.in-Some-2.is at c.in_ok-claim.ensures.parsed in
    λ _ _. elim c.then-claim-least.either [
      | inl low ↦ entry_low c.args.least c.args.entries c.args.text.now c.in-Some.line.now c.in-Some.behind.now (sym c.in-Some.ensures) c.in-Some-2.claim is low
      | inr high ↦ entry_high c.args.least c.args.entries c.args.text.now c.in-Some.line.now c.in-Some.behind.now (sym c.in-Some.ensures) c.in-Some-2.claim is high.1
    ]

pub returns-clause-reads : goal.returns-clause-reads
returns-clause-reads c =
    claim_first c.args.least c.args.entries c.args.text.now c.in-Some.line.now c.in-Some.behind.now (sym c.in-Some.ensures) c.in-Some-2.claim (rw c.in-Some-2.is at c.in_ok-claim.ensures.parsed) (omega arith) (omega arith)
