use Rattle.cl_lanes_app.specs.Words.{request_seen}
use Rattle.cl_lanes_app.proofs.Ran.{as_many, is_report}
use Rattle.cl_lanes_app.proofs.report.lanes_reply.Goals as goal

pub lanes_text-text-requires : goal.lanes_text-text-requires
lanes_text-text-requires c = as_many (request_seen c.args.request.now) c.args.costs.now c.args.file.now c.in_ok-progress.progress c.in_ok-progress.ensures

pub returns : goal.returns
returns c = is_report (request_seen c.args.request.now) c.args.costs.now c.args.file.now c.in_ok-progress.progress c.in_ok-text.field-0.items c.bytes_reply.result c.in_ok-progress.ensures c.in_ok-text.ensures c.bytes_reply.ensures
