use Rattle.std.proofs.Common.{sym, ◌∙◌}
use Rattle.cl_replies.proofs.Counted.{supply_there, supply_absent}
use Rattle.cl_replies.proofs.generated.supply.Goals as goal

pub returns-then-has_ft : goal.returns-then-has_ft
returns-then-has_ft c = supply_there c.args.world.now.stack.top c.coin-at.result c.supply.result c.coin-at.ensures (sym c.has_ft.ensures ∙ c.if-has_ft.true) c.supply.ensures

pub returns-else-has_ft : goal.returns-else-has_ft
returns-else-has_ft c = supply_absent c.args.world.now.stack.top c.coin-at.result c.coin-at.ensures (sym c.has_ft.ensures ∙ c.if-has_ft.false)
