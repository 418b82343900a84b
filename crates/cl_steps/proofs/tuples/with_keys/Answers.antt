use Rattle.std.proofs.Common.{◌≡◌, length, sym, ◌∙◌, arith}
use Rattle.std.proofs.Common.{◌<◌, ◌≤◌}
use Rattle.std.specs.Vec.Iter.{into_iter_items}
use Rattle.cl_frames.proofs.TupleLaws
use Rattle.cl_steps.proofs.tuples.with_keys.Goals as goal

pub returns-then-place-keys : goal.returns-then-place-keys
returns-then-place-keys c =
    let past : length c.args.keys.now ≤ length c.loop-value.parts.items = omega (arith, c.loop-value.parts.ok.0) in
    sym (TupleLaws.no_key c.args.keys.now (length c.loop-value.parts.items) (into_iter_items c.loop-value.value-iterator) c.loop-value.parts.items past) ∙ c.loop-value.invariant

pub loop-value-preserved : goal.loop-value-preserved
loop-value-preserved c =
    let at : c.len-place.result ≡ length c.loop-value.parts.items = omega (arith, c.loop-value.parts.ok.0) in
    let here : length c.loop-value.parts.items < length c.args.keys.now = omega (arith, at) in
    sym (TupleLaws.next_pair c.args.keys.now (length c.loop-value.parts.items) c.len-place.result c.index-keys-place.result c.in-Some.value (into_iter_items c.next.new.self) (into_iter_items c.loop-value.value-iterator) c.loop-value.parts.items c.push.new.self.items c.in-Some.ensures.steps.0 here c.index-keys-place.is at (omega (arith, c.in_ok-push.ensures.len)) c.in_ok-push.ensures.items) ∙ c.loop-value.invariant

pub returns : goal.returns
returns c =
    let empty : length c.loop-value.value-iterator.rest.items ≡ 0 = omega (arith, c.loop-value.value-iterator.rest.ok.0, c.in-None.ensures.steps.0) in
    sym (TupleLaws.no_value c.args.keys.now (length c.loop-value.parts.items) (into_iter_items c.loop-value.value-iterator) c.loop-value.parts.items empty) ∙ c.loop-value.invariant
