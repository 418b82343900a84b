use Rattle.std.proofs.Common.{◌<◌, ◌+◌, ◌^◌, arith}
use Rattle.cl_replies.proofs.generated.run_workload.Goals as goal

pub loop-preserved : goal.loop-preserved
loop-preserved c =
    let low : c.loop.counter + 1 < 2 ^ 32 = omega (arith, c.loop-test.true, c.ranges.count.fits) in
    record { counted = c.in_ok-run_call.ensures c.args.seed c.loop.counter low c.loop.invariant.counted }
