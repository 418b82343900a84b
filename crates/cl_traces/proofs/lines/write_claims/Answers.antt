use Rattle.cl_lines.proofs.InTurn.{one_written, each_written}
use Rattle.cl_traces.specs.Lines.{line_of}
use Rattle.cl_traces.proofs.lines.write_claims.Goals as goal

pub loop-claim-preserved : goal.loop-claim-preserved
loop-claim-preserved c =
    one_written (line_of c.args.number) c.args.claims.now c.loop-claim.out.items _ _ c.loop-claim.claim-index c.claim-item.result c.loop-claim-test.true c.claim-item.is c.in_ok-write_claim.ensures c.loop-claim.invariant

pub returns : goal.returns
returns c = each_written (line_of c.args.number) c.args.claims.now c.loop-claim.out.items _ c.loop-claim.claim-index c.loop-claim-test.false c.loop-claim.invariant
