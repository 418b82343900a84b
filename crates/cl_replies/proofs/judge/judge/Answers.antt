use Rattle.cl_costs.specs.Tables.{function_of}
use Rattle.cl_replies.proofs.Judged.{break_is_refused, is_checked}
use Rattle.cl_replies.proofs.judge.judge.Goals as goal

pub judge_bounds-requires-clause-checked : goal.judge_bounds-requires-clause-checked
judge_bounds-requires-clause-checked c =
    is_checked c.args.accepted.now.deployed.contracts c.args.source.now c.as_slice-text.result.now c.in-Ok.checked c.as_slice-text.ensures c.in-Ok.ensures.principal c.in-Ok.ensures.version c.in-Ok.ensures.length c.is_well_formed.ensures.indexed c.in-Ok.ensures.found

pub returns-in_ok-refused_text-in-Err-Refused-clause-judged : goal.returns-in_ok-refused_text-in-Err-Refused-clause-judged
returns-in_ok-refused_text-in-Err-Refused-clause-judged c =
    let refusal = c.in-Err-Refused.refusal in
    break_is_refused (function_of c.args.costs.now) c.args.accepted.now.deployed.contracts c.args.source.now c.as_slice-text.result.now
    (record { rule = refusal.rule; span = refusal.span; names = refusal.names.items }) c.in_ok-refused_text-in-Err-Refused.field-0.items c.as_slice-text.ensures
    (rw c.in-Err-Refused.field-0-is at c.in-Err-Refused.ensures.broken) c.in_ok-refused_text-in-Err-Refused.ensures
