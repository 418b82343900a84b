use Rattle.std.proofs.Common.{ℕ, List, ◌++◌, sym, ap, ◌∙◌}
use Rattle.cl_report.specs.Lines.{lines_of}
use Rattle.cl_lanes_app.proofs.Reported.{report_more}
use Rattle.cl_lanes_app.proofs.report.report.Goals as goal

pub loop-at-preserved : goal.loop-at-preserved
loop-at-preserved c =
    c.in_ok-write_lines.ensures
    ∙ ap (λ (text : List ℕ). text ++ lines_of c.loop-at.at c.index-entries-at.result c.index-results-at.result) c.loop-at.invariant
    ∙ sym (report_more c.args.entries.now c.args.results.now c.loop-at.at c.index-entries-at.result c.index-results-at.result c.loop-at-test.true c.requires.each c.index-entries-at.is c.index-results-at.is)
