use Rattle.std.proofs.Common.{◌<◌, List, length, sym, subst}
use Rattle.cl_values.specs.Tree.{Tree}
use Rattle.cl_values.specs.Typed.{AreOf}
use Rattle.cl_shapes.specs.Limits.{Purse}
use Rattle.cl_meaning.specs.Limits.{Limited, limited}
use Rattle.cl_frames.specs.Aborts.{Answers}
use Rattle.cl_frames.specs.Watching.{Tells, trace}
use Rattle.cl_tx.specs.Nodes.{purse_of}
use Rattle.cl_runs.specs.Called.{call_of, costs_of, types_of}
use Rattle.cl_nodes.proofs.Facts.{ok_also}
use Rattle.cl_engine.proofs.Ends.{may_answer}
use Rattle.cl_engine.proofs.Calling.{tells_all}
use Rattle.cl_engine.proofs.call.apply.Goals as goal

pub run_found-answer-requires-clause-few : goal.run_found-answer-requires-clause-few
run_found-answer-requires-clause-few g c = subst (λ (vs : List Tree). length vs < 4294967296) (sym c.in_ok-args.ensures) c.requires.few

pub run_found-answer-requires-clause-fitting : goal.run_found-answer-requires-clause-fitting
run_found-answer-requires-clause-fitting g c = subst (λ (vs : List Tree). AreOf vs (types_of c.args.called.now)) (sym c.in_ok-args.ensures) c.requires.fitting

pub judge-requires : goal.judge-requires
judge-requires g c =
    let called = c.args.called.now in
    let common = c.args.invocation.now.common.now in
    let args : List Tree = c.args.invocation.now.args.now in
    let l : Limited Tree = limited (costs_of called) (purse_of common) (call_of called args c.args.world.now) in
    let answers : Answers l c.run_found-answer.result c.run_found-answer.new.meter c.run_found-answer.new.world.stack.top =
    subst (λ (n : Purse × List Tree). Answers (limited (costs_of called) n.0 (call_of called n.1 c.args.world.now)) c.run_found-answer.result c.run_found-answer.new.meter c.run_found-answer.new.world.stack.top)
    (λ i. (c.meter_of-meter.ensures i, c.in_ok-args.ensures i)) c.run_found-answer.ensures.meant in
    record { fine = may_answer common called.function.now.access l c.run_found-answer.result c.run_found-answer.new.meter c.run_found-answer.new.world.stack.top c.requires.comes answers }

pub returns-clause-ended : goal.returns-clause-ended
returns-clause-ended g c =
    let called = c.args.called.now in
    let common = c.args.invocation.now.common.now in
    let args : List Tree = c.args.invocation.now.args.now in
    let l : Limited Tree = limited (costs_of called) (purse_of common) (call_of called args c.args.world.now) in
    let answers : Answers l c.run_found-answer.result c.run_found-answer.new.meter c.run_found-answer.new.world.stack.top =
    subst (λ (n : Purse × List Tree). Answers (limited (costs_of called) n.0 (call_of called n.1 c.args.world.now)) c.run_found-answer.result c.run_found-answer.new.meter c.run_found-answer.new.world.stack.top)
    (λ i. (c.meter_of-meter.ensures i, c.in_ok-args.ensures i)) c.run_found-answer.ensures.meant in
    ok_also c.judge.result _ _ (λ e ended node. ended l c.run_found-answer.new.meter node answers (sym c.spent.ensures.value)) c.judge.ensures.ended

pub returns-clause-seen : goal.returns-clause-seen
returns-clause-seen g c =
    let called = c.args.called.now in
    let common = c.args.invocation.now.common.now in
    let args : List Tree = c.args.invocation.now.args.now in
    tells_all c.run_found-answer.result c.judge.result (g.W.Watch.seen c.args.watch.now) (g.W.Watch.seen c.run_found-answer.new.watch) (trace (costs_of called) (purse_of common) (call_of called args c.args.world.now))
    (subst (λ (n : Purse × List Tree). Tells (g.W.Watch.seen c.args.watch.now) (g.W.Watch.seen c.run_found-answer.new.watch) (trace (costs_of called) n.0 (call_of called n.1 c.args.world.now)) c.run_found-answer.result)
    (λ i. (c.meter_of-meter.ensures i, c.in_ok-args.ensures i)) c.run_found-answer.ensures.seen)
    c.judge.ensures.memory c.judge.ensures.answered
