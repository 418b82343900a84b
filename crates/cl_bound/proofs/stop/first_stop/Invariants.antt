use Rattle.std.proofs.Common.{◌≡◌, drop}
use Rattle.cl_costs.specs.Tables.{function_of}
use Rattle.cl_rules.specs.FormRules.{Defined}
use Rattle.cl_bound.specs.Seen.{ShowsPrices}
use Rattle.cl_bound.proofs.Stopping.{stop_of}
use Rattle.cl_bound.proofs.stop.first_stop.Given as goal

abbrev pub invariant-loop-place : goal.invariant-loop-place
invariant-loop-place l = (D : Defined) → ShowsPrices l.prices D.context → stop_of l.parts (function_of l.prices.costs) D l.parts.order.items ≡ stop_of l.parts (function_of l.prices.costs) D (drop l.place-index l.parts.order.items)
