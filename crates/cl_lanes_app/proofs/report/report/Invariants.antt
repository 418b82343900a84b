use Rattle.std.proofs.Common.{◌≡◌, take}
use Rattle.cl_report.specs.Lines.{report_from}
use Rattle.cl_lanes_app.proofs.report.report.Given as goal

abbrev pub invariant-loop-at : goal.invariant-loop-at
invariant-loop-at l = l.text.items ≡ report_from 0 (take l.at l.entries) (take l.at l.results)
