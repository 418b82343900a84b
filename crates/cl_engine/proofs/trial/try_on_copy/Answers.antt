use Rattle.cl_engine.proofs.trial.try_on_copy.Goals as goal

pub call-requires-clause-callable : goal.call-requires-clause-callable
call-requires-clause-callable c = c.bounds_for.ensures c.args.moment.now.costs.now c.in_ok-computed.ensures
