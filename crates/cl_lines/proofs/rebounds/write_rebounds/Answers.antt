use Rattle.cl_lines.specs.Rebounds.{rebound_line}
use Rattle.cl_lines.proofs.InTurn.{one_written, each_written}
use Rattle.cl_lines.proofs.rebounds.write_rebounds.Goals as goal

pub loop-rebound-preserved : goal.loop-rebound-preserved
loop-rebound-preserved c =
    one_written rebound_line c.args.rebounds.now c.loop-rebound.out.items _ _ c.loop-rebound.rebound-index c.rebound-item.result c.loop-rebound-test.true c.rebound-item.is c.in_ok-write_rebound.ensures c.loop-rebound.invariant

pub returns : goal.returns
returns c = each_written rebound_line c.args.rebounds.now c.loop-rebound.out.items _ c.loop-rebound.rebound-index c.loop-rebound-test.false c.loop-rebound.invariant
