use Rattle.std.proofs.Common.{sym}
use Rattle.cl_typing.proofs.JoinedTypes.{joins_end, joins_next, joins_stop}
use Rattle.cl_typing.proofs.joining.joined.Goals as goal

pub returns-in-Err : goal.returns-in-Err
returns-in-Err c = joins_stop (λ t. t.now) c.args.others.now c.args.first.now c.loop-next.next-index c.next-item.result c.loop-next.joined c.in-Err.fault c.loop-next-test.true (sym c.next-item.is) c.in-Err.ensures.joined c.loop-next.invariant

pub returns : goal.returns
returns c = joins_end (λ t. t.now) c.args.others.now c.args.first.now c.loop-next.next-index c.loop-next.joined c.loop-next-test.false c.loop-next.invariant

pub loop-next-preserved : goal.loop-next-preserved
loop-next-preserved c = joins_next (λ t. t.now) c.args.others.now c.args.first.now c.loop-next.next-index c.next-item.result c.loop-next.joined c.in-Ok.ty c.loop-next-test.true (sym c.next-item.is) c.in-Ok.ensures.joined c.loop-next.invariant
