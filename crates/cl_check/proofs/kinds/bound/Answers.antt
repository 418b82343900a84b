use Rattle.cl_check.proofs.JudgedKinds.{one_bound}
use Rattle.cl_check.proofs.kinds.bound.Goals as goal

pub loop-param-preserved : goal.loop-param-preserved
loop-param-preserved c =
    one_bound c.args.params.now c.loop-param.param-index c.param-item.result c.in_ok-ty.ty c.loop-param.scope c.insert.new.self.entries c.loop-param-test.true c.param-item.is c.requires c.loop-param.invariant c.in_ok-ty.ensures c.in_ok-insert.ensures.entries
