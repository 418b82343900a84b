use Rattle.std.proofs.Common.{[], ◌∷◌, sym, ap, ◌∙◌}
use Rattle.cl_c32.specs.declared.principal.Principal.{Principal}
use Rattle.cl_forms.specs.Shapes.{principal_named}
use Rattle.cl_code.specs.declared.op.Target.{Target}
use Rattle.cl_code.specs.Expression.{target_leaf}
use Rattle.cl_contracts.specs.Seen.{deployed_seen}
use Rattle.cl_touch.specs.Uses.{Crosses, crossing}
use Rattle.cl_footprint.specs.Gathering.{gathered, with_uses}
use Rattle.cl_footprint.proofs.walk.add_target.Goals as goal

pub returns-in_ok-add_deployed-in-Standing : goal.returns-in_ok-add_deployed-in-Standing
returns-in_ok-add_deployed-in-Standing c touched written =
    c.in_ok-add_deployed-in-Standing.ensures c.args.own.now touched written
    ∙ ap (λ (t : Target). with_uses (deployed_seen c.args.deployed.now) c.args.own.now (crossing (principal_named c.args.own.now (target_leaf t)) c.args.name.now) (gathered c.args.reached.now.keys touched written)) (sym c.in-Standing.is)

pub returns-in_ok-add_deployed-in-Local : goal.returns-in_ok-add_deployed-in-Local
returns-in_ok-add_deployed-in-Local c touched written =
    c.in_ok-add_deployed-in-Local.ensures c.args.own.now touched written
    ∙ ap (λ (q : Principal). with_uses (deployed_seen c.args.deployed.now) c.args.own.now (Crosses q c.args.name.now ∷ []) (gathered c.args.reached.now.keys touched written)) c.beside-principal.ensures
    ∙ ap (λ (t : Target). with_uses (deployed_seen c.args.deployed.now) c.args.own.now (crossing (principal_named c.args.own.now (target_leaf t)) c.args.name.now) (gathered c.args.reached.now.keys touched written)) (sym c.in-Local.is)
