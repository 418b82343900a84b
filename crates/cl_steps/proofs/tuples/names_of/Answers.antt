use Rattle.std.proofs.Common.{length, sym, ◌∙◌, arith}
use Rattle.std.proofs.Common.{◌<◌, ◌≤◌}
use Rattle.cl_frames.proofs.TupleLaws
use Rattle.cl_steps.proofs.tuples.names_of.Goals as goal

pub loop-binding-preserved : goal.loop-binding-preserved
loop-binding-preserved c =
    let here : c.loop-binding.binding-index < length c.args.bindings.now = omega arith in
    sym (TupleLaws.next_name c.args.bindings.now c.loop-binding.binding-index _ c.loop-binding.names.items c.push.new.self.items here c.binding-item.is c.in_ok-push.ensures.items) ∙ c.loop-binding.invariant

pub returns : goal.returns
returns c =
    let past : length c.args.bindings.now ≤ c.loop-binding.binding-index = omega arith in
    sym (TupleLaws.no_name c.args.bindings.now c.loop-binding.binding-index c.loop-binding.names.items past) ∙ c.loop-binding.invariant
