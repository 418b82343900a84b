use Rattle.std.proofs.Common.{inl, inr, refl, option_map}
use Rattle.cl_replies.specs.Inputs.{inputs_seen}
use Rattle.cl_app.proofs.Stepping.{err_so}
use Rattle.cl_lanes_app.specs.Replying.{WritesSome}
use Rattle.cl_lanes_app.specs.Words.{request_seen}
use Rattle.cl_lanes_app.proofs.top.answer.Goals as goal

pub returns-in_err-reply-clause-part : goal.returns-in_err-reply-clause-part
returns-in_err-reply-clause-part g c = err_so c.from_residual.result (λ _. WritesSome (option_map request_seen c.args.request.now) (inputs_seen c.args.inputs) (g.K.Sink.written c.args.out.now) (g.K.Sink.written c.args.out.now)) (λ _. inl refl)

pub returns-in_err-write-clause-part : goal.returns-in_err-write-clause-part
returns-in_err-write-clause-part g c =
    err_so c.from_residual-in_err-write.result (λ _. WritesSome (option_map request_seen c.args.request.now) (inputs_seen c.args.inputs) (g.K.Sink.written c.args.out.now) (g.K.Sink.written c.write.new.out))
    (λ _. inr (record { reply = c.in_ok-reply.reply; is_reply = c.in_ok-reply.ensures; written = c.write.ensures.part }))

pub returns-clause-done : goal.returns-clause-done
returns-clause-done g c = record { reply = c.in_ok-reply.reply; is_reply = c.in_ok-reply.ensures; written = c.in_ok-write.ensures.whole; ends = refl }
