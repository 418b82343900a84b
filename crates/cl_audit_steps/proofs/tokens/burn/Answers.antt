use Rattle.std.proofs.Common.{refl, sym, ap, ◌∙◌}
use Rattle.cl_shapes.specs.declared.name.CostName.TheVariants.{WriteToken}
use Rattle.cl_meaning.specs.Answers.{with_known}
use Rattle.cl_meaning.specs.Scope.{sizes}
use Rattle.cl_meaning.specs.Tokens.{acts}
use Rattle.cl_audit_steps.specs.Seen.{seen}
use Rattle.std.proofs.lemmas.Result.{err_from_is_err_and}
use Rattle.cl_audit_steps.proofs.DataLaws.{does_forgot}
use Rattle.cl_audit_steps.proofs.ValueLaws.{charged_as}
use Rattle.cl_audit_steps.proofs.tokens.burn.Goals as goal

pub returns : goal.returns
returns c outer = record {
  done = λ take enter. charged_as _ _ _ _ _ _ _ (seen c.args.scope.now outer) take enter _ refl (c.in_ok-charge.ensures ∙ ap (λ vs. (WriteToken, sizes vs)) c.deref.ensures.value) (sym (ap (λ k. with_known k (acts (seen c.args.scope.now outer)) c.args.world.now.stack.top) c.burn_stx.ensures) ∙ (c.in_ok-last.ensures outer).done take enter) c.charged_end.ensures;
  below = (c.in_ok-last.ensures outer).below;
}

pub returns-in_err-last : goal.returns-in_err-last
returns-in_err-last c outer =
    let e = err_from_is_err_and c.from_residual-in_err-last.result c.from_residual-in_err-last.ensures.1 in
    does_forgot (seen c.args.scope.now outer) _ _ _ _ e.0 e.1 (c.in_err-last.ensures outer).below
