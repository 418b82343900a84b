use Rattle.std.proofs.Common.{◌∙◌, [], refl}
use Rattle.cl_entries.specs.Scripts.{DoesPart, Script}
use Rattle.cl_replies.specs.Inputs.{Inputs}
use Rattle.cl_replies.specs.Reports.{IsScript}
use Rattle.cl_app.specs.Top.{IsAt, left_of}
use Rattle.cl_app.proofs.Stepping.{all_counted, comes_first, comes_next, comes_to_end, err_so, nothing_counted, one_counted, somewhere, stops_between, stops_within}
use Rattle.cl_app.proofs.steps.do_steps.Goals as goal

pub loop-init : goal.loop-init
loop-init g c = record {
  comes = comes_first c.events_told_in_turn.ensures.nothing c.args.steps.now (g.K.Sink.written c.args.out.now) c.args.listeners.now;
  left = nothing_counted (left_of c.args.steps.now);
  faults = refl;
}

pub next-requires-clause-way : goal.next-requires-clause-way
next-requires-clause-way g c = somewhere c.args.steps.now c.loop.steps (g.K.Sink.written c.args.out.now) (g.K.Sink.written c.loop.out) c.args.listeners.now c.loop.listeners c.requires.0 c.requires.1 c.loop.invariant.comes

pub returns-in_err-step-clause-part : goal.returns-in_err-step-clause-part
returns-in_err-step-clause-part g c = err_so c.from_residual.result (λ _. (inputs : Inputs) (script : Script) → IsAt inputs [] c.args.steps.now → IsScript inputs script → DoesPart script.steps (g.K.Sink.written c.args.out.now) (g.K.Sink.written c.loop.out) c.args.listeners.now c.loop.listeners) (λ _. stops_between (record { run = c.a_file_has_one_script.ensures.first; traces = c.a_file_has_one_trace_script.ensures.first }) c.scripts_are_one.ensures.inputs c.args.steps.now c.loop.steps (g.K.Sink.written c.args.out.now) (g.K.Sink.written c.loop.out) c.args.listeners.now c.loop.listeners c.loop.invariant.comes)

pub returns-in_err-do_step-clause-part : goal.returns-in_err-do_step-clause-part
returns-in_err-do_step-clause-part g c =
    err_so c.from_residual-in_err-do_step.result (λ _. (inputs : Inputs) (script : Script) → IsAt inputs [] c.args.steps.now → IsScript inputs script → DoesPart script.steps (g.K.Sink.written c.args.out.now) (g.K.Sink.written c.do_step.new.out) c.args.listeners.now c.do_step.new.listeners)
    (λ _. stops_within c.events_told_in_turn.ensures.more (record { run = c.a_file_has_one_script.ensures.first; traces = c.a_file_has_one_trace_script.ensures.first }) c.scripts_are_one.ensures.inputs c.args.steps.now c.loop.steps c.next.new.self c.in_ok-step.step (g.K.Sink.written c.args.out.now) (g.K.Sink.written c.loop.out) (g.K.Sink.written c.do_step.new.out) c.args.listeners.now c.loop.listeners c.do_step.new.listeners c.loop.invariant.comes c.in_ok-step.ensures.next c.do_step.ensures.told c.do_step.ensures.part)

pub loop-preserved : goal.loop-preserved
loop-preserved g c = record {
  comes = comes_next c.events_told_in_turn.ensures.more c.args.steps.now c.loop.steps c.next.new.self c.in_ok-step.step (g.K.Sink.written c.args.out.now) (g.K.Sink.written c.loop.out) (g.K.Sink.written c.do_step.new.out) c.args.listeners.now c.loop.listeners c.do_step.new.listeners c.loop.invariant.comes c.in_ok-step.ensures.next c.do_step.ensures.told c.in_ok-do_step.ensures.whole;
  left = one_counted c.loop.counter (left_of c.loop.steps) (left_of c.next.new.self) (left_of c.args.steps.now) c.in_ok-step.ensures.left c.loop.invariant.left;
  faults = c.in_ok-do_step.ensures.faults ∙ c.loop.invariant.faults;
}

pub returns-clause-done : goal.returns-clause-done
returns-clause-done g c =
    comes_to_end (record { run = c.a_file_has_one_script.ensures.last; traces = c.a_file_has_one_trace_script.ensures.last }) c.args.steps.now c.loop.steps c.status.result (g.K.Sink.written c.args.out.now) (g.K.Sink.written c.loop.out) c.args.listeners.now c.loop.listeners c.loop.invariant.comes
    (all_counted c.remaining-end.result c.loop.counter (left_of c.loop.steps) (left_of c.args.steps.now) c.remaining-end.ensures c.loop-test.false c.loop.invariant.left) c.status.ensures
