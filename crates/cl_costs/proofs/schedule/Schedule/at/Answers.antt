use Rattle.std.proofs.Common.{sym, ap, ◌∙◌, arith}
use Rattle.cl_costs.specs.Schedules.{ScheduleSeen, last_begun, table_at}
use Rattle.cl_costs.proofs.Schedules.{last_end}
use Rattle.cl_costs.proofs.schedule.Schedule.at.Goals as goal

pub returns : goal.returns
unfolding table_at
returns c =
    sym (last_end c.args.height c.loop-i.table.now c.self.inside.epochs.items c.loop-i.i (omega (arith, c.loop-i-test.false, c.len-i-end.ensures)))
    ∙ c.loop-i.invariant ∙ ap (λ (s : ScheduleSeen). last_begun c.args.height s.first s.epochs) c.self.view_is
