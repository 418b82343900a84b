use Rattle.std.proofs.Common.{◌≡◌, drop}
use Rattle.cl_contracts.proofs.InOrder.{at_places}
use Rattle.cl_bound.proofs.Definitions.{Walked}
use Rattle.cl_bound.proofs.contract.deployment.Given as goal

abbrev pub invariant-loop-place : goal.invariant-loop-place
invariant-loop-place l = record {
  costs : l.prices.costs ≡ l.fn.prices.costs;
  walked : Walked l.fn.prices l.parts (at_places l.parts (drop l.place-index l.parts.order.items)) l.prices l.sum;
}
