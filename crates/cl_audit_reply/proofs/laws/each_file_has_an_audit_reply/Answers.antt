use Rattle.cl_audit_reply.proofs.There.{each_has_reply}
use Rattle.cl_audit_reply.proofs.laws.each_file_has_an_audit_reply.Goals as goal

pub returns : goal.returns
returns c = each_has_reply c.each_file_has_results.ensures.results
