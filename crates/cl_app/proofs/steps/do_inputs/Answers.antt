use Rattle.cl_replies.specs.Inputs.{inputs_seen}
use Rattle.cl_app.proofs.Acts.{nothing_if_err}
use Rattle.cl_app.proofs.steps.do_inputs.Goals as goal

pub returns-in_err-steps-clause-part : goal.returns-in_err-steps-clause-part
returns-in_err-steps-clause-part g c = nothing_if_err c.events_told_in_turn.ensures.nothing (inputs_seen c.args.inputs) c.from_residual.result (g.K.Sink.written c.args.out.now) c.args.listeners.now
