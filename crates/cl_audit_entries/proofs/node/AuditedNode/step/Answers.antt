use Rattle.std.specs.Prelude.{IfOk}
use Rattle.std.proofs.Common.{◌≡◌, subst}
use Rattle.cl_file.specs.Entries.{height_after}
use Rattle.cl_file.specs.declared.entry.Entry.{Entry}
use Rattle.cl_audit_entries.proofs.node.AuditedNode.step.Goals as goal

pub returns-in-Deploy-clause-height : goal.returns-in-Deploy-clause-height
returns-in-Deploy-clause-height c = subst (λ (e : Entry). IfOk c.deploy.result (λ _. c.deploy.new.self.height ≡ height_after c.args.self.now.height e)) c.in-Deploy.ensures c.deploy.ensures.height

pub returns-in-Call-clause-height : goal.returns-in-Call-clause-height
returns-in-Call-clause-height c = subst (λ (e : Entry). IfOk c.call.result (λ _. c.call.new.self.height ≡ height_after c.args.self.now.height e)) c.in-Call.ensures c.call.ensures.height
