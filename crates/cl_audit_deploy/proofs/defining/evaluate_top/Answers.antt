use Rattle.std.proofs.Common.{refl, ◌∙◌}
use Rattle.cl_meaning.specs.Top.{top}
use Rattle.cl_audit_walk.proofs.Applying.{elsewhere, at_names}
use Rattle.cl_audit_deploy.proofs.defining.evaluate_top.Goals as goal

pub returns : goal.returns
unfolding top
returns c = elsewhere c.args.scope.now _ _ _ _ _ refl (at_names _ 256 c.args.item.now _ _ _ _ _ (c.alone-names.ensures ∙ c.new-none.ensures) c.take.ensures)
