use Rattle.cl_audit_reply.proofs.TraceFiles.{put_there}
use Rattle.cl_audit_reply.proofs.reading.put.Goals as goal

pub returns : goal.returns
returns c = put_there c.args.line c.index_mut-trace.result.now (record { claims = c.push.new.self }) c.in_ok-push.ensures.items c.args.traces.now.items c.requires c.index_mut-trace.ensures.value
