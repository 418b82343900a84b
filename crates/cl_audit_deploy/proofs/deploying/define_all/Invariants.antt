use Rattle.std.proofs.Common.{◌≡◌, drop}
use Rattle.cl_newness.specs.Newness.{AreNew}
use Rattle.cl_audit_steps.specs.Seen.{contract_seen}
use Rattle.cl_audit_deploy.specs.Deploying.{without_values}
use Rattle.cl_audit_deploy.proofs.Turns.{Defining}
use Rattle.cl_audit_deploy.proofs.deploying.define_all.Given as goal

abbrev pub invariant-loop-place : goal.invariant-loop-place
invariant-loop-place l = record {
  onward : Defining l.scope l.order l.initial.contract (drop l.place-index l.order) l.contract l.initial.run l.run;
  same : without_values (contract_seen l.contract) ≡ without_values (contract_seen l.initial.contract);
  new : AreNew l.contract.principal l.contract.forms l.order l.place-index l.contract.constants l.run.world.stack.top;
}
