use Rattle.std.proofs.Common.{◌≡◌, ◌++◌, drop}
use Rattle.std.specs.List.{flat_map}
use Rattle.cl_lines.specs.Events.{event_line}
use Rattle.cl_report.proofs.entries.write_each.Given as goal

abbrev pub invariant-loop-event : goal.invariant-loop-event
invariant-loop-event l = l.out.items ++ flat_map event_line (drop l.event-index l.events) ≡ l.initial.out.items ++ flat_map event_line l.events
