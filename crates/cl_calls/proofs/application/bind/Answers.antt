use Rattle.std.proofs.Common.{◌<◌, ◌≤◌, ◌∙◌, length, arith}
use Rattle.std.proofs.lemmas.Result.{err_from_is_err_and}
use Rattle.cl_frames.proofs.WatchSteps.{stops_eq}
use Rattle.cl_frames.proofs.Binding.{bind_starts, bind_turn, bind_stops, bind_past, bind_short, bind_end, binds_not}
use Rattle.cl_calls.proofs.application.bind.Goals as goal

pub loop-place-init : goal.loop-place-init
loop-place-init c = bind_starts _ _ _ _

pub returns-then-place-len : goal.returns-then-place-len
returns-then-place-len c body s k =
    let past : length c.args.function.now.params.items ≤ c.loop-place.place = omega (arith, c.args.function.now.params.ok.0) in
    let here : c.loop-place.place < length c.args.values.now = omega arith in
    c.loop-place.invariant body s k ∙ bind_past _ _ _ _ _ _ _ _ _ past here

pub returns-in_err-pay : goal.returns-in_err-pay
returns-in_err-pay c =
    let few : c.loop-place.place < length c.args.function.now.params.items = omega (arith, c.args.function.now.params.ok.0) in
    let here : c.loop-place.place < length c.args.values.now = omega arith in
    binds_not _ _ _ _ _ _ c.in_err-pay.field-0.0 (err_from_is_err_and c.from_residual.result c.from_residual.ensures.1)
    (λ body s k. stops_eq _ _ c.in_err-pay.field-0.0 _ k s (c.loop-place.invariant body s k) (bind_stops _ _ _ _ _ _ _ _ _ _ _ _ _ few here c.index-values-place.is (c.from-size.ensures ∙ c.size.ensures.counted) c.in_err-pay.ensures))

pub loop-place-preserved : goal.loop-place-preserved
loop-place-preserved c body s k =
    let few : c.loop-place.place < length c.args.function.now.params.items = omega (arith, c.args.function.now.params.ok.0) in
    let here : c.loop-place.place < length c.args.values.now = omega arith in
    c.loop-place.invariant body s k ∙ bind_turn _ _ _ _ _ _ _ _ _ _ _ few here c.index-values-place.is (c.from-size.ensures ∙ c.size.ensures.counted) c.in_ok-pay.ensures

pub returns-then-count-len : goal.returns-then-count-len
returns-then-count-len c body s k =
    let few : c.loop-place.place < length c.args.function.now.params.items = omega (arith, c.args.function.now.params.ok.0) in
    let past : length c.args.values.now ≤ c.loop-place.place = omega arith in
    c.loop-place.invariant body s k ∙ bind_short _ _ _ _ _ _ _ _ _ few past

pub returns : goal.returns
returns c body s k =
    let full : length c.args.function.now.params.items ≤ c.loop-place.place = omega (arith, c.args.function.now.params.ok.0) in
    let past : length c.args.values.now ≤ c.loop-place.place = omega arith in
    c.loop-place.invariant body s k ∙ bind_end _ _ _ _ _ _ _ _ full past
