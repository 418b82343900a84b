use Rattle.std.proofs.Common.{◌<◌, ◌≤◌, List, length, get_or, sym, ap, ◌∙◌, subst, arith}
use Rattle.std.specs.Prelude.{slice_get}
use Rattle.std.proofs.lemmas.List.{drop_all}
use Rattle.std.proofs.lemmas.Option.{slice_get-get_or}
use Rattle.std.proofs.lemmas.Result.{err_from_is_err_and}
use Rattle.cl_forms.specs.Forms.{Form}
use Rattle.cl_meaning.specs.Deployed.{Contract}
use Rattle.cl_newness.specs.Newness.{DefineOnce}
use Rattle.cl_newness.proofs.Newness.{new_here}
use Rattle.cl_audit_steps.specs.Seen.{contract_seen}
use Rattle.cl_audit_walk.proofs.Rules.{forgets}
use Rattle.cl_audit_deploy.proofs.Charges.{hand_opened}
use Rattle.cl_audit_deploy.proofs.Turns.{form_turn, form_stopped, forms_end, new_next, place_within, places_left}
use Rattle.cl_audit_deploy.proofs.deploying.define_all.Goals as goal

pub form_at-form-requires : goal.form_at-form-requires
form_at-form-requires c =
    let low : c.loop-place.place-index < length c.args.order.now = c.loop-place-test.true in
    subst (λ (fs : List Form). get_or c.args.order.now c.loop-place.place-index 0 < length fs) (sym (ap (λ (k : Contract). k.forms) c.loop-place.invariant.same)) (place_within c.args.contract.now.forms c.args.order.now c.loop-place.place-index _ c.requires.order (slice_get-get_or _ _ 0 low))

pub define-requires-clause-named : goal.define-requires-clause-named
define-requires-clause-named c =
    c.requires.once.named _ _ (ap (λ (fs : List Form). slice_get fs (get_or c.args.order.now c.loop-place.place-index 0)) (sym (ap (λ (k : Contract). k.forms) c.loop-place.invariant.same)) ∙ c.form_at-form.ensures)

pub define-requires-clause-new : goal.define-requires-clause-new
define-requires-clause-new c =
    let low : c.loop-place.place-index < length c.args.order.now = c.loop-place-test.true in
    new_here c.loop-place.contract.principal c.loop-place.contract.forms c.args.order.now c.loop-place.place-index _ _ (contract_seen c.loop-place.contract) c.loop-place.run.world.stack.top (slice_get-get_or _ _ 0 low) c.form_at-form.ensures c.loop-place.invariant.new

pub returns-in_err-constant-clause-evaluates : goal.returns-in_err-constant-clause-evaluates
returns-in_err-constant-clause-evaluates c =
    let low : c.loop-place.place-index < length c.args.order.now = c.loop-place-test.true in
    form_stopped c.args.scope.now c.args.order.now _ _ _ _ c.args.contract.now c.loop-place.contract _ c.args.run.now c.loop-place.run c.define.new.run _ (places_left c.args.order.now c.loop-place.place-index low) c.form_at-form.ensures (hand_opened _ _ _ (err_from_is_err_and c.from_residual.result c.from_residual.ensures.1)) c.loop-place.invariant.onward c.in_err-constant.ensures

pub returns-in_err-add-clause-evaluates : goal.returns-in_err-add-clause-evaluates
returns-in_err-add-clause-evaluates c = c.loop-place.invariant.onward _ _ (forgets c.args.scope.now _ _ _ _ (hand_opened _ _ _ (err_from_is_err_and c.from_residual-in_err-add.result c.from_residual-in_err-add.ensures.1)) c.in_ok-constant.ensures.below)

pub loop-place-preserved : goal.loop-place-preserved
loop-place-preserved c =
    let low : c.loop-place.place-index < length c.args.order.now = c.loop-place-test.true in
    let once : DefineOnce c.loop-place.contract.forms = subst DefineOnce (sym (ap (λ (k : Contract). k.forms) c.loop-place.invariant.same)) c.requires.once in
    record {
      onward = form_turn c.args.scope.now c.args.order.now _ _ _ _ c.args.contract.now c.loop-place.contract c.add.new.contract _ c.args.run.now c.loop-place.run c.define.new.run (places_left c.args.order.now c.loop-place.place-index low) c.form_at-form.ensures c.in_ok-add.ensures.added c.loop-place.invariant.onward c.in_ok-constant.ensures;
      same = c.add.ensures.same ∙ c.loop-place.invariant.same;
      new = new_next c.args.scope.now c.args.order.now c.loop-place.place-index _ _ c.loop-place.contract c.add.new.contract _ c.loop-place.run c.define.new.run once c.requires.order.once (slice_get-get_or _ _ 0 low) c.form_at-form.ensures c.in_ok-add.ensures.added c.loop-place.invariant.new c.in_ok-constant.ensures;
    }

pub returns-clause-evaluates : goal.returns-clause-evaluates
returns-clause-evaluates c =
    let past : length c.args.order.now ≤ c.loop-place.place-index = omega arith in
    forms_end c.args.scope.now c.args.order.now _ c.args.contract.now c.loop-place.contract c.args.run.now c.loop-place.run (drop_all c.loop-place.place-index c.args.order.now past) c.loop-place.invariant.onward
