use Rattle.std.proofs.Common.{ap, ◌∙◌}
use Rattle.cl_costs.specs.Tables.{function_of}
use Rattle.cl_contracts.specs.Seen.{contract_under}
use Rattle.cl_replies.proofs.Judged.{is_accepted}
use Rattle.cl_replies.proofs.judge.accept.Goals as goal

pub keep-requires-clause-new : goal.keep-requires-clause-new
keep-requires-clause-new c = ap (λ p. contract_under p c.args.accepted.now.deployed.contracts) c.requires.checked.principal_is ∙ c.requires.new

pub keep-requires-clause-fits : goal.keep-requires-clause-fits
keep-requires-clause-fits c = λ known standing. (
  (c.requires.checked.found known standing).0,
  (c.requires.checked.found known standing).3,
)

pub returns-clause-judged : goal.returns-clause-judged
returns-clause-judged c =
    is_accepted (function_of c.args.costs.now) c.args.accepted.now.deployed.contracts c.args.source.now c.args.checked c.requires.checked c.what_callers_know.ensures.defined c.args.priced.bounds c.requires.bounded
    c.in_ok-text.text.items c.in_ok-text.ensures c.keep.new.accepted.deployed.contracts c.in_ok-keep.ensures.kept

pub returns-clause-stand : goal.returns-clause-stand
returns-clause-stand c = record {
  known = c.in_ok-keep.ensures.known (function_of c.args.costs.now) c.requires.stand.known c.requires.kept;
}
