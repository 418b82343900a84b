use Rattle.std.proofs.Common.{[], subst}
use Rattle.std.specs.Prelude.{unwrap_or}
use Rattle.cl_forms.specs.Forms.{Form}
use Rattle.cl_audit_walk.specs.Evaluates.{Evaluates}
use Rattle.cl_audit_deploy.specs.Deploying.{defined_by, defined_in}
use Rattle.cl_audit_deploy.proofs.defining.define.Goals as goal

pub returns-in-None : goal.returns-in-None
returns-in-None c =
    subst (λ (f : Form). Evaluates c.args.scope.now (defined_by c.args.scope.now f c.args.contract.now) c.args.run.now (defined_in c.args.contract.now c.define_unnamed.result) c.define_unnamed.new.run) c.form.view_is
    (c.define_unnamed.ensures (unwrap_or c.form.inside.name []))
