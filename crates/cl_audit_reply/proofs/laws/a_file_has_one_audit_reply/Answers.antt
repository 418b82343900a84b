use Rattle.cl_audit_reply.proofs.Once.{reply_once}
use Rattle.cl_audit_reply.proofs.laws.a_file_has_one_audit_reply.Goals as goal

pub returns : goal.returns
returns c = reply_once c.steps_have_one_result.ensures.step c.entries_have_one_trace.ensures
