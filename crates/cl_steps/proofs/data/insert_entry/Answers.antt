use Rattle.std.proofs.Common.{true, false, refl, sym, ap, ◌∙◌}
use Rattle.std.proofs.lemmas.Result.{err_from_is_err_and}
use Rattle.cl_meaning.specs.Data.{insert_entry, entry_at}
use Rattle.cl_meaning.specs.Limits.{limited}
use Rattle.cl_meaning.proofs.LimitLaws.{limited-stop}
use Rattle.cl_frames.specs.Seen.{scope}
use Rattle.cl_frames.proofs.Steps.{pay_fails_at, ends_so, charge_spent}
use Rattle.cl_frames.proofs.Laws
use Rattle.cl_steps.proofs.data.insert_entry.Goals as goal

pub returns-in_err-pay_for_all-clause-meant : goal.returns-in_err-pay_for_all-clause-meant
returns-in_err-pay_for_all-clause-meant c fits =
    pay_fails_at _ _ c.in_err-pay_for_all.field-0.0 _ _ _ _ _ _ _ _ (err_from_is_err_and c.from_residual.result c.from_residual.ensures.1) (ap Rattle.cl_meaning.specs.Scope.sizes c.deref.ensures.value) refl c.in_err-pay_for_all.ensures

pub returns-then-not-own_map-clause-meant : goal.returns-then-not-own_map-clause-meant
returns-then-not-own_map-clause-meant c fits =
    charge_spent _ _ _ _ _ _ _ (ap Rattle.cl_meaning.specs.Scope.sizes c.deref.ensures.value) c.in_ok-pay_for_all.ensures ∙ ap (limited _ _) (Laws.no_map (scope c.args.context.now c.args.names.now) c.args.name.now _ c.args.world.now.stack.top (sym (c.own_map.ensures c.args.names.now.values fits) ∙ c.if-not-own_map.true)) ∙ limited-stop _ _ _ _

pub returns-in-Some-clause-meant : goal.returns-in-Some-clause-meant
returns-in-Some-clause-meant c fits =
    ends_so _ _ _ _ _ (charge_spent _ _ _ _ _ _ _ (ap Rattle.cl_meaning.specs.Scope.sizes c.deref.ensures.value) c.in_ok-pay_for_all.ensures ∙ ap (limited _ _) (Laws.pair_is (scope c.args.context.now c.args.names.now) c.args.name.now (λ key v t. insert_entry (scope c.args.context.now c.args.names.now) c.args.name.now key v (entry_at (scope c.args.context.now c.args.names.now) c.args.name.now key t) t) _ _ _ _ (sym (c.own_map.ensures c.args.names.now.values fits) ∙ c.if-not-own_map.false) c.in-Some.ensures)) (c.put_new_entry.ensures.meant _)

pub returns-in-None-clause-meant : goal.returns-in-None-clause-meant
returns-in-None-clause-meant c fits =
    charge_spent _ _ _ _ _ _ _ (ap Rattle.cl_meaning.specs.Scope.sizes c.deref.ensures.value) c.in_ok-pay_for_all.ensures ∙ ap (limited _ _) (Laws.no_pair (scope c.args.context.now c.args.names.now) c.args.name.now (λ key v t. insert_entry (scope c.args.context.now c.args.names.now) c.args.name.now key v (entry_at (scope c.args.context.now c.args.names.now) c.args.name.now key t) t) _ _ (sym (c.own_map.ensures c.args.names.now.values fits) ∙ c.if-not-own_map.false) c.in-None.ensures) ∙ limited-stop _ _ _ _
