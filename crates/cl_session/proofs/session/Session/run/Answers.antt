use Rattle.cl_session.proofs.Running.{err_is, runs_next, runs_part}
use Rattle.cl_session.proofs.session.Session.run.Goals as goal

pub returns-in_err-step-clause-part : goal.returns-in_err-step-clause-part
returns-in_err-step-clause-part c =
    err_is _ c.from_residual.result
    (runs_part c.args.entries.now c.loop-entry.entry-index c.args.self.now c.loop-entry.self c.step.new.self c.entry-item.result c.loop-entry-test.true c.entry-item.is c.loop-entry.invariant c.in_err-step.ensures.failed)

pub loop-entry-preserved : goal.loop-entry-preserved
loop-entry-preserved c =
    runs_next c.args.entries.now c.loop-entry.entry-index c.args.self.now c.loop-entry.self c.step.new.self c.entry-item.result c.loop-entry-test.true c.entry-item.is c.loop-entry.invariant c.in_ok-step.ensures.made
