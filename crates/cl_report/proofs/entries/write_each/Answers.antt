use Rattle.cl_lines.specs.Events.{event_line}
use Rattle.cl_lines.proofs.InTurn.{one_written, each_written}
use Rattle.cl_report.proofs.entries.write_each.Goals as goal

pub loop-event-preserved : goal.loop-event-preserved
loop-event-preserved c =
    one_written event_line c.args.events.now c.loop-event.out.items _ _ c.loop-event.event-index c.event-item.result c.loop-event-test.true c.event-item.is c.in_ok-write_event.ensures c.loop-event.invariant

pub returns : goal.returns
returns c = each_written event_line c.args.events.now c.loop-event.out.items _ c.loop-event.event-index c.loop-event-test.false c.loop-event.invariant
