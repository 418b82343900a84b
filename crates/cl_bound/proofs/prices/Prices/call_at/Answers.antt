use Rattle.std.proofs.Common.{refl, sym, ◌∙◌}
use Rattle.cl_bound.proofs.Lookups.{nowhere_sum, call_sum}
use Rattle.cl_bound.proofs.prices.Prices.call_at.Goals as goal

pub returns-in-Some : goal.returns-in-Some
returns-in-Some c G shows =
    call_sum c.args.self.now G c.args.principal.now c.args.name.now shows c.in-Some.contract.now c.in-Some.contract.now.length c.charge_length-call.result c.callable.result c.add.result (sym c.eq.ensures ∙ c.if-eq.false) c.in-Some.ensures.value refl c.charge_length-call.ensures c.callable.ensures c.add.ensures

pub returns-in-None : goal.returns-in-None
returns-in-None c G shows = nowhere_sum c.args.self.now G c.args.principal.now c.args.name.now shows c.in-None.ensures.value
