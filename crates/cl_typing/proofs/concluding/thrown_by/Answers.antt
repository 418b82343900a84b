use Rattle.std.proofs.Common.{sym}
use Rattle.cl_typing.proofs.Conclusions.{thrown_end, thrown_stop}
use Rattle.cl_typing.proofs.concluding.thrown_by.Goals as goal

pub returns-in-Err : goal.returns-in-Err
returns-in-Err c = thrown_stop c.args.parts.now c.loop-part.part-index c.part-item.result c.loop-part.thrown c.args.own.now _ _ c.loop-part-test.true (sym c.part-item.is) c.in-Err.is c.and_thrown.ensures c.loop-part.invariant

pub returns : goal.returns
returns c = thrown_end c.args.parts.now c.loop-part.part-index c.loop-part.thrown c.args.own.now _ _ c.loop-part-test.false c.and_thrown-2.ensures c.loop-part.invariant
