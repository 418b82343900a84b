use Rattle.std.proofs.Common.{List, [], ℕ, drop, ◌+◌, subst, sym}
use Rattle.std.proofs.lemmas.List.{drop_all}
use Rattle.cl_costs.specs.Tables.{function_of}
use Rattle.cl_entries.specs.declared.status.Status.TheVariants.{Refused}
use Rattle.cl_replies.specs.Checked.{IsReport}
use Rattle.cl_replies.specs.Kept.{AcceptedSoFar}
use Rattle.cl_replies.proofs.Judged.{accepted_all, accepted_first, accepted_next, next_is_new, refused_next, source_in_front}
use Rattle.cl_replies.proofs.judge.judge_all.Goals as goal

pub loop-source-init : goal.loop-source-init
loop-source-init c = record {
  accepted = rw c.requires.empty (accepted_first (function_of c.args.costs.now) c.args.sources.now c.args.accepted.now.deployed.contracts c.requires.apart c.requires.none);
  stand = c.requires.stand;
}

pub judge-requires-clause-new : goal.judge-requires-clause-new
judge-requires-clause-new c =
    let i = c.loop-source.source-index in
    next_is_new (function_of c.args.costs.now) c.args.sources.now (drop i c.args.sources.now) (drop (i + 1) c.args.sources.now) c.source-item.result c.loop-source.text.items c.loop-source.accepted.deployed.contracts
    c.loop-source.invariant.accepted (source_in_front c.args.sources.now i c.source-item.result c.loop-source-test.true c.source-item.is)

pub loop-source-preserved : goal.loop-source-preserved
loop-source-preserved c =
    let i = c.loop-source.source-index in
    let one = rw c.in-Accepted.is at c.in_ok-judged.ensures.judged in
    record {
      accepted = rw c.in_ok-add_lines-in-Accepted.ensures
          (accepted_next (function_of c.args.costs.now) c.args.sources.now (drop i c.args.sources.now) (drop (i + 1) c.args.sources.now) c.source-item.result c.loop-source.text.items c.in-Accepted.lines.items c.loop-source.accepted.deployed.contracts c.judge.new.accepted.deployed.contracts
          c.loop-source.invariant.accepted (source_in_front c.args.sources.now i c.source-item.result c.loop-source-test.true c.source-item.is) one);
      stand = c.in_ok-judged.ensures.stand;
    }

pub returns-in-Refused : goal.returns-in-Refused
returns-in-Refused c =
    let i = c.loop-source.source-index in
    let one = rw c.in-Refused.is at c.in_ok-judged.ensures.judged in
    rw c.in_ok-add_lines-in-Refused.ensures
    (refused_next (function_of c.args.costs.now) c.args.sources.now (drop i c.args.sources.now) (drop (i + 1) c.args.sources.now) c.source-item.result c.loop-source.text.items c.in-Refused.line.items c.loop-source.accepted.deployed.contracts
    c.loop-source.invariant.accepted (source_in_front c.args.sources.now i c.source-item.result c.loop-source-test.true c.source-item.is) one)

pub returns : goal.returns
returns c =
    accepted_all (function_of c.args.costs.now) c.args.sources.now (drop c.loop-source.source-index c.args.sources.now) c.loop-source.text.items c.loop-source.accepted.deployed.contracts c.loop-source.invariant.accepted
    (drop_all c.loop-source.source-index c.args.sources.now c.loop-source-test.false)
