use Rattle.std.proofs.Common.{◌<◌, ◌≤◌, length, sym, ◌∙◌, arith}
use Rattle.cl_frames.proofs.Pairing.{next_under, none_given}
use Rattle.cl_frames.proofs.own.among_params.Goals as goal

pub returns-then-place-values : goal.returns-then-place-values
returns-then-place-values c =
    let past : length c.args.values.now ≤ c.loop-place.place = omega arith in
    sym (none_given c.args.name.now c.args.function.now.params.items c.args.values.now c.loop-place.place past) ∙ c.loop-place.invariant

pub loop-place-preserved : goal.loop-place-preserved
loop-place-preserved c =
    let few : c.loop-place.place < length c.args.function.now.params.items = omega (arith, c.args.function.now.params.ok.0) in
    let here : c.loop-place.place < length c.args.values.now = omega arith in
    next_under c.args.name.now c.args.function.now.params.items c.args.values.now c.loop-place.place c.index.result.now few here c.index.ensures (sym c.is_same.ensures ∙ c.if-is_same.false) ∙ c.loop-place.invariant
