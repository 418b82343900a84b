use Rattle.std.proofs.Common.{◌≡◌, ap, ◌∙◌, arith}
use Rattle.cl_costs.specs.Schedules.{ScheduleSeen, begun, epoch_at}
use Rattle.cl_costs.proofs.Schedules.{begun_few, begun_end}
use Rattle.cl_costs.proofs.schedule.Schedule.epoch.Goals as goal

pub overflow_add-begun : goal.overflow_add-begun
overflow_add-begun c =
    let few = begun_few c.args.height c.self.inside.epochs.items in
    omega (arith, c.loop-i.invariant, few, c.self.invariant.few)

pub returns : goal.returns
unfolding epoch_at
returns c =
    let rest = begun_end c.args.height c.self.inside.epochs.items c.loop-i.i (omega (arith, c.loop-i-test.false, c.len-i-end.ensures)) in
    let all : c.loop-i.begun ≡ begun c.args.height c.self.inside.epochs.items = omega (arith, c.loop-i.invariant, rest) in
    all ∙ ap (λ (s : ScheduleSeen). begun c.args.height s.epochs) c.self.view_is
