use Rattle.cl_session.proofs.Rising.{call_rises}
use Rattle.cl_session.proofs.Running.{err_so, ok_so, ran_one, ran_part_of_one}
use Rattle.cl_session.proofs.session.Session.call.Goals as goal

pub step-requires-clause-rises : goal.step-requires-clause-rises
step-requires-clause-rises c = call_rises c.clear.new.self.node.height c.args.entry.now c.requires

pub returns-clause-ran : goal.returns-clause-ran
returns-clause-ran c =
    ok_so _ _ c.step.result (ran_one c.args.entry.now c.args.self.now c.clear.new.self c.step.new.self c.requires c.clear.ensures) c.step.ensures.made

pub returns-clause-part : goal.returns-clause-part
returns-clause-part c =
    err_so _ _ c.step.result (ran_part_of_one c.args.entry.now c.args.self.now c.clear.new.self c.step.new.self c.requires c.clear.ensures) c.step.ensures.failed
