use Rattle.std.proofs.Common.{List, ℕ, refl, sym, ap, ◌∙◌}
use Rattle.std.proofs.lemmas.Result.{err_from_is_err_and}
use Rattle.cl_shapes.specs.declared.name.CostName.TheVariants.{Deploy}
use Rattle.cl_contracts.specs.declared.parts.Parts.{Parts}
use Rattle.cl_frames.specs.Watching.{watched}
use Rattle.cl_frames.specs.Deploys.{costs_of, all_by}
use Rattle.cl_frames.proofs.WatchSteps.{pay_fails_at, ends_so, charge_spent}
use Rattle.cl_frames.proofs.Defining.{hand}
use Rattle.cl_runs.proofs.top.deploy.Goals as goal

pub returns-in_err-pay-clause-meant : goal.returns-in_err-pay-clause-meant
returns-in_err-pay-clause-meant g c =
    let d = c.args.deploying.now in
    pay_fails_at _ _ c.in_err-pay.field-0.0 _ _ _ _ _ Deploy _ d.checked.now.source_length (all_by d d.checked.now.order.items c.args.constants.now.entries c.args.world.now.stack.top)
    (hand d _ _ _ (err_from_is_err_and c.from_residual.result c.from_residual.ensures.1)) (c.from-length.ensures ∙ ap (λ (q : Parts). q.source_length) c.parts-contract.ensures) refl c.in_err-pay.ensures

pub define_all-requires-clause-order : goal.define_all-requires-clause-order
define_all-requires-clause-order g c = c.as_slice-places.ensures.value ∙ ap (λ (q : Parts). q.order.items) c.parts-contract.ensures

pub returns-clause-meant : goal.returns-clause-meant
returns-clause-meant g c =
    let d = c.args.deploying.now in
    ends_so _ _ _ _ _ _
    (charge_spent _ _ _ _ Deploy _ d.checked.now.source_length (all_by d d.checked.now.order.items c.args.constants.now.entries c.args.world.now.stack.top) (c.from-length.ensures ∙ ap (λ (q : Parts). q.source_length) c.parts-contract.ensures) c.in_ok-pay.ensures
    ∙ ap (λ (ns : List ℕ). watched (costs_of d) c.pay.new.meter (g.W.Watch.seen c.args.watch.now) (all_by d ns c.args.constants.now.entries c.args.world.now.stack.top)) (sym (c.as_slice-places.ensures.value ∙ ap (λ (q : Parts). q.order.items) c.parts-contract.ensures)))
    c.define_all.ensures.meant
