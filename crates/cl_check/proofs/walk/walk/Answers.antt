use Rattle.std.proofs.Common.{◌<◌, ◌+◌, length, get_or, List, sym, subst, rules}
use Rattle.cl_code.specs.declared.definition.Definition.{Definition}
use Rattle.cl_check.proofs.WalkedForms.{HasWalked, at_here, default_free, place_within, walked_more, may_follow, walk_broken, all_walked}
use Rattle.cl_check.proofs.walk.walk.Goals as goal

pub offset_bounds-forms-place : goal.offset_bounds-forms-place
offset_bounds-forms-place c =
    let within : (get_or c.args.order.now c.loop-place.place-index 0) < length c.args.forms.now = (place_within c.args.forms.now c.args.order.now c.loop-place.place-index (get_or c.args.order.now c.loop-place.place-index 0) c.requires.good c.loop-place-test.true (default_free c.args.order.now c.loop-place.place-index 0 (get_or c.args.order.now c.loop-place.place-index 0) c.loop-place-test.true)) in
    search rules

pub bounds-forms-place : goal.bounds-forms-place
bounds-forms-place c = (place_within c.args.forms.now c.args.order.now c.loop-place.place-index (get_or c.args.order.now c.loop-place.place-index 0) c.requires.good c.loop-place-test.true (default_free c.args.order.now c.loop-place.place-index 0 (get_or c.args.order.now c.loop-place.place-index 0) c.loop-place-test.true))

pub check_form-requires : goal.check_form-requires
check_form-requires c = may_follow c.args.ctx.now c.loop-place.ctx c.args.forms.now c.args.order.now c.loop-place.place-index (get_or c.args.order.now c.loop-place.place-index 0) c.index-forms-place.result c.loop-place.definitions.items c.loop-place.invariant c.loop-place-test.true (default_free c.args.order.now c.loop-place.place-index 0 (get_or c.args.order.now c.loop-place.place-index 0) c.loop-place-test.true) (at_here c.args.forms.now (get_or c.args.order.now c.loop-place.place-index 0) c.index-forms-place.result (place_within c.args.forms.now c.args.order.now c.loop-place.place-index (get_or c.args.order.now c.loop-place.place-index 0) c.requires.good c.loop-place-test.true (default_free c.args.order.now c.loop-place.place-index 0 (get_or c.args.order.now c.loop-place.place-index 0) c.loop-place-test.true)) c.index-forms-place.is) c.requires.known c.requires.good

pub returns-in-Err-clause-broken : goal.returns-in-Err-clause-broken
returns-in-Err-clause-broken c = walk_broken c.args.ctx.now c.loop-place.ctx c.args.forms.now c.args.order.now c.loop-place.place-index (get_or c.args.order.now c.loop-place.place-index 0) c.index-forms-place.result c.loop-place.definitions.items c.loop-place.invariant c.loop-place-test.true (default_free c.args.order.now c.loop-place.place-index 0 (get_or c.args.order.now c.loop-place.place-index 0) c.loop-place-test.true) (at_here c.args.forms.now (get_or c.args.order.now c.loop-place.place-index 0) c.index-forms-place.result (place_within c.args.forms.now c.args.order.now c.loop-place.place-index (get_or c.args.order.now c.loop-place.place-index 0) c.requires.good c.loop-place-test.true (default_free c.args.order.now c.loop-place.place-index 0 (get_or c.args.order.now c.loop-place.place-index 0) c.loop-place-test.true)) c.index-forms-place.is) c.check_form.new.ctx c.in-Err.fault c.in-Err.ensures

pub loop-place-preserved : goal.loop-place-preserved
loop-place-preserved c =
    subst (λ (ds : List Definition). HasWalked c.args.ctx.now c.args.forms.now c.args.order.now (c.loop-place.place-index + 1) ds c.check_form.new.ctx) (sym c.in_ok-push-in-Ok.ensures.items)
    (walked_more c.args.ctx.now c.loop-place.ctx c.args.forms.now c.args.order.now c.loop-place.place-index (get_or c.args.order.now c.loop-place.place-index 0) c.index-forms-place.result c.loop-place.definitions.items c.loop-place.invariant c.loop-place-test.true (default_free c.args.order.now c.loop-place.place-index 0 (get_or c.args.order.now c.loop-place.place-index 0) c.loop-place-test.true) (at_here c.args.forms.now (get_or c.args.order.now c.loop-place.place-index 0) c.index-forms-place.result (place_within c.args.forms.now c.args.order.now c.loop-place.place-index (get_or c.args.order.now c.loop-place.place-index 0) c.requires.good c.loop-place-test.true (default_free c.args.order.now c.loop-place.place-index 0 (get_or c.args.order.now c.loop-place.place-index 0) c.loop-place-test.true)) c.index-forms-place.is) c.check_form.new.ctx c.in-Ok.definition c.in-Ok.ensures)

pub returns-clause-standing : goal.returns-clause-standing
returns-clause-standing c = all_walked c.args.ctx.now c.loop-place.ctx c.args.forms.now c.args.order.now c.loop-place.place-index c.loop-place.definitions.items c.loop-place.invariant c.loop-place-test.false
