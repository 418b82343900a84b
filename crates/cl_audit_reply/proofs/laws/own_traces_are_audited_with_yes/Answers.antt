use Rattle.cl_audit_reply.proofs.OwnTraces.{own_is_yes}
use Rattle.cl_audit_reply.proofs.laws.own_traces_are_audited_with_yes.Goals as goal

pub returns : goal.returns
returns c = own_is_yes c.read_back.ensures
