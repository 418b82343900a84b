use Rattle.std.proofs.Common.{refl, ap, ◌∙◌}
use Rattle.cl_shapes.specs.declared.name.CostName.TheVariants.{WriteMap}
use Rattle.cl_meaning.specs.Scope.{sizes}
use Rattle.cl_meaning.specs.Data.{set_entry}
use Rattle.cl_audit_steps.specs.Seen.{seen}
use Rattle.cl_audit_steps.proofs.DataLaws.{has_it, has_none, two_values, not_two, does_forgot}
use Rattle.std.proofs.lemmas.Result.{err_from_is_err_and}
use Rattle.cl_audit_steps.proofs.ValueLaws.{charged_as}
use Rattle.cl_audit_steps.proofs.data.write_entry.Goals as goal

pub returns-then-not-has_map : goal.returns-then-not-has_map
returns-then-not-has_map c outer = record { done = λ take enter. charged_as _ _ _ _ _ _ _ (seen c.args.scope.now outer) take enter _ refl (c.in_ok-charge.ensures ∙ ap (λ vs. (WriteMap, sizes vs)) c.deref.ensures.value) (has_none (seen c.args.scope.now outer) c.args.name.now _ _ _ c.has_map.ensures c.if-not-has_map.true) c.charged_end.ensures; below = refl }

pub returns-in_ok-put_entry-in-Some : goal.returns-in_ok-put_entry-in-Some
returns-in_ok-put_entry-in-Some c outer = record {
  done = λ take enter. charged_as _ _ _ _ _ _ _ (seen c.args.scope.now outer) take enter _ refl (c.in_ok-charge.ensures ∙ ap (λ vs. (WriteMap, sizes vs)) c.deref.ensures.value) (has_it (seen c.args.scope.now outer) c.args.name.now _ _ _ c.has_map.ensures c.if-not-has_map.false ∙ two_values (set_entry (seen c.args.scope.now outer) c.args.name.now) _ _ _ _ c.in-Some.ensures ∙ (c.in_ok-put_entry-in-Some.ensures outer).done take enter) c.charged_end-in-Some.ensures;
  below = (c.in_ok-put_entry-in-Some.ensures outer).below;
}

pub returns-in_err-put_entry-in-Some : goal.returns-in_err-put_entry-in-Some
returns-in_err-put_entry-in-Some c outer =
    let e = err_from_is_err_and c.from_residual-in_err-put_entry-in-Some.result c.from_residual-in_err-put_entry-in-Some.ensures.1 in
    does_forgot (seen c.args.scope.now outer) _ _ _ _ e.0 e.1 (c.in_err-put_entry-in-Some.ensures outer).below

pub returns-in-None : goal.returns-in-None
returns-in-None c outer = record { done = λ take enter. charged_as _ _ _ _ _ _ _ (seen c.args.scope.now outer) take enter _ refl (c.in_ok-charge.ensures ∙ ap (λ vs. (WriteMap, sizes vs)) c.deref.ensures.value) (has_it (seen c.args.scope.now outer) c.args.name.now _ _ _ c.has_map.ensures c.if-not-has_map.false ∙ not_two (set_entry (seen c.args.scope.now outer) c.args.name.now) _ _ c.in-None.ensures) c.charged_end-in-None.ensures; below = refl }
