use Rattle.std.proofs.Common.{refl, sym, ap, ◌∙◌}
use Rattle.cl_shapes.specs.Limits.{spend}
use Rattle.cl_costs.specs.Tables.{function_of}
use Rattle.cl_walks.specs.Walked.{Passed}
use Rattle.cl_walks.proofs.WalkLaws.{charge_within, charge_over}
use Rattle.cl_audit_walk.specs.Evaluates.{rules, book}
use Rattle.cl_audit_walk.proofs.Paying.{cost_found}
use Rattle.cl_audit_deploy.proofs.paying.pay.Goals as goal

pub returns-in-Ok : goal.returns-in-Ok
returns-in-Ok c = record {
  charged = λ a. charge_within (rules c.args.scope.now) (book c.args.run.now) _ _ _ a (sym (ap (spend c.args.run.now.meter) (cost_found (function_of c.args.scope.now.costs.now) c.args.charge _ _ _ _ c.at.ensures.value c.of.ensures c.name.ensures c.number.ensures.value)) ∙ c.in-Ok.ensures.spends);
  world = refl;
}

pub returns-in-Err : goal.returns-in-Err
returns-in-Err c = record {
  charged = λ a s. charge_over (rules c.args.scope.now) (book c.args.run.now) _ _ _ a (sym (ap (spend c.args.run.now.meter) (cost_found (function_of c.args.scope.now.costs.now) c.args.charge _ _ _ _ c.at.ensures.value c.of.ensures c.name.ensures c.number.ensures.value)) ∙ c.in-Err.ensures.over)
      ∙ ap (λ p. Passed c.in-Err.over (record { purse = p; kept = c.args.run.now.cursor })) (sym c.in-Err.ensures.unchanged);
  world = refl;
}
