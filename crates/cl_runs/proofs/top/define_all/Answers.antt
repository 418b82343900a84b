use Rattle.std.proofs.Common.{◌<◌, ◌≤◌, ℕ, List, length, get_or, ◌∙◌, sym, ap, arith}
use Rattle.std.specs.Prelude.{slice_get}
use Rattle.std.proofs.lemmas.Result.{err_from_is_err_and}
use Rattle.std.proofs.lemmas.List.{drop_all}
use Rattle.std.proofs.lemmas.Option.{slice_get-get_or}
use Rattle.cl_contracts.proofs.Going.{goes_at}
use Rattle.cl_frames.specs.Watching.{watched}
use Rattle.cl_frames.specs.Deploys.{costs_of, all_by}
use Rattle.std.specs.Prelude.{Ok}
use Rattle.cl_frames.proofs.Telling.{run_ends}
use Rattle.cl_frames.proofs.WatchSteps.{hands_on, stops_eq}
use Rattle.cl_frames.proofs.Defining.{hand, define_turn, define_stops, define_end, place_within, form_here, places_left}
use Rattle.cl_frames.proofs.Newness.{new_here, new_after}
use Rattle.cl_runs.proofs.top.define_all.Goals as goal

pub definition_at-definition-requires : goal.definition_at-definition-requires
definition_at-definition-requires g c =
    let low : c.loop-place.place-index < length c.args.places.now = omega arith in
    place_within c.args.deploying.now.checked.now c.loop-place.place-index _ c.is_well_formed.ensures.indexed.order (ap (λ (ns : List ℕ). slice_get ns c.loop-place.place-index) (sym c.requires.order) ∙ slice_get-get_or _ _ 0 low)

pub define-requires-clause-new : goal.define-requires-clause-new
define-requires-clause-new g c =
    let low : c.loop-place.place-index < length c.args.places.now = omega arith in
    new_here c.args.deploying.now.checked.now c.loop-place.place-index _ _ _ _ (ap (λ (ns : List ℕ). slice_get ns c.loop-place.place-index) (sym c.requires.order) ∙ slice_get-get_or _ _ 0 low) (form_here c.args.deploying.now.checked.now (get_or c.args.places.now c.loop-place.place-index 0) _ c.definition_at-definition.ensures) c.loop-place.invariant.new

pub define-requires-clause-goes : goal.define-requires-clause-goes
define-requires-clause-goes g c =
    let checked = c.args.deploying.now.checked.now in
    goes_at checked.version checked.definitions.items _ _ c.is_well_formed.ensures.indexed.goes c.definition_at-definition.ensures

pub returns-in_err-define-clause-meant : goal.returns-in_err-define-clause-meant
returns-in_err-define-clause-meant g c =
    let d = c.args.deploying.now in
    let order = c.args.places.now in
    let low : c.loop-place.place-index < length order = omega arith in
    hands_on _ _ c.in_err-define.field-0.0 _ _ _ (hand d _ _ _ (err_from_is_err_and c.from_residual.result c.from_residual.ensures.1))
    (stops_eq _ _ _ _ _ _ (c.loop-place.invariant.so_far ∙ ap (λ (ns : List ℕ). watched (costs_of d) c.loop-place.meter (g.W.Watch.seen c.loop-place.watch) (all_by d ns c.loop-place.constants.entries c.loop-place.world.stack.top)) (places_left order c.loop-place.place-index low))
    (define_stops d _ _ _ _ _ _ _ _ _ _ _ (form_here c.args.deploying.now.checked.now (get_or c.args.places.now c.loop-place.place-index 0) _ c.definition_at-definition.ensures) c.in_err-define.ensures.meant))

pub loop-place-preserved : goal.loop-place-preserved
loop-place-preserved g c =
    let d = c.args.deploying.now in
    let order = c.args.places.now in
    let low : c.loop-place.place-index < length order = omega arith in
    record {
      so_far =
          c.loop-place.invariant.so_far
          ∙ ap (λ (ns : List ℕ). watched (costs_of d) c.loop-place.meter (g.W.Watch.seen c.loop-place.watch) (all_by d ns c.loop-place.constants.entries c.loop-place.world.stack.top)) (places_left order c.loop-place.place-index low)
          ∙ define_turn d _ _ _ _ _ _ _ _ _ _ _ (form_here c.args.deploying.now.checked.now (get_or c.args.places.now c.loop-place.place-index 0) _ c.definition_at-definition.ensures) c.in_ok-define.ensures.meant;
      new = new_after d _ _ _ _ _ _ _ _ _ c.is_well_formed.ensures.indexed (ap (λ (ns : List ℕ). slice_get ns c.loop-place.place-index) (sym c.requires.order) ∙ slice_get-get_or _ _ 0 low) (form_here c.args.deploying.now.checked.now (get_or c.args.places.now c.loop-place.place-index 0) _ c.definition_at-definition.ensures) (run_ends _ _ _ _ _ _ (Ok _) _ c.in_ok-define.ensures.meant) c.loop-place.invariant.new;
      below = c.in_ok-define.ensures.below ∙ c.loop-place.invariant.below;
      grew = omega (arith, c.in_ok-define.ensures.grew, c.loop-place.invariant.grew);
    }

pub returns-clause-meant : goal.returns-clause-meant
returns-clause-meant g c =
    let d = c.args.deploying.now in
    let past : length c.args.places.now ≤ c.loop-place.place-index = omega arith in
    c.loop-place.invariant.so_far
    ∙ ap (λ (ns : List ℕ). watched (costs_of d) c.loop-place.meter (g.W.Watch.seen c.loop-place.watch) (all_by d ns c.loop-place.constants.entries c.loop-place.world.stack.top)) (drop_all c.loop-place.place-index c.args.places.now past)
    ∙ define_end d _ _ _ _
