use Rattle.std.proofs.Common.{refl, arith}
use Rattle.cl_events.specs.State.{holder}
use Rattle.cl_tables.proofs.Spelled.{held_paid, paid_more}
use Rattle.cl_tables.proofs.tables.paid.Goals as goal

pub loop-i-preserved : goal.loop-i-preserved
loop-i-preserved c = record {
  within = omega arith;
  paid = paid_more c.args.holders.now c.loop-i.i c.index-holders-i.result c.loop-i.stx.ledger c.pay.new.stx.ledger c.loop-i-test.true c.loop-i.invariant.within c.index-holders-i.is c.loop-i.invariant.paid c.in_ok-pay.ensures.paid;
  held = held_paid c.index-holders-i.result.1 (holder c.index-holders-i.result.0) c.loop-i.stx.ledger c.pay.new.stx.ledger (c.index-holders-i.result.0, c.in_ok-pay.ensures.ranges, refl) c.loop-i.invariant.held c.in_ok-pay.ensures.paid;
}
