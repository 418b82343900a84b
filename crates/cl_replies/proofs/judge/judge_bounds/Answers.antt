use Rattle.cl_costs.specs.Tables.{function_of}
use Rattle.cl_replies.proofs.Judged.{bound_is_refused}
use Rattle.cl_replies.proofs.judge.judge_bounds.Goals as goal

pub accept-requires-clause-bounded : goal.accept-requires-clause-bounded
accept-requires-clause-bounded c = record {
  within = λ known defined knows stands. c.in-Ok.ensures.bounded c.args.accepted.now.deployed known defined c.requires.stand.known knows stands;
  told = λ known defined knows stands. c.in-Ok.ensures.told c.args.accepted.now.deployed known defined c.requires.stand.known knows stands;
}

pub returns-in-Err-Refused-clause-judged : goal.returns-in-Err-Refused-clause-judged
returns-in-Err-Refused-clause-judged c =
    let above = rw c.in-Err-Refused.field-0-is at c.in-Err-Refused.ensures.broken in
    let refusal = c.in-Err-Refused.refusal in
    bound_is_refused (function_of c.args.costs.now) c.args.accepted.now.deployed.contracts c.args.source.now c.args.checked c.requires.checked above.0
    (record { rule = refusal.rule; span = refusal.span; names = refusal.names.items }) c.in_ok-refused_text-in-Err-Refused.field-0.items above.1
    (rw c.in-Err-Refused.field-0-is at c.in-Err-Refused.ensures.names) (λ known defined. above.2 c.args.accepted.now.deployed known defined c.requires.stand.known) c.in_ok-refused_text-in-Err-Refused.ensures

pub accept-requires-clause-kept : goal.accept-requires-clause-kept
accept-requires-clause-kept c = c.in-Ok.ensures.kept c.args.accepted.now.deployed c.requires.stand.known
