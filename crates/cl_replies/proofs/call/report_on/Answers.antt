use Rattle.cl_replies.proofs.Called.{is_report_of}
use Rattle.cl_replies.proofs.call.report_on.Goals as goal

pub returns : goal.returns
returns c =
    is_report_of c.runs_are_sound.ensures c.unit_schedule-costs.result c.args.first.now c.args.second.now c.in_ok-both.both c.in_ok-report.field-0 c.unit_schedule-costs.ensures c.in_ok-both.ensures c.in_ok-report.ensures
