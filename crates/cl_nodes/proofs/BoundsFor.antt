-- Bounds that were computed for a table, or the kept ones.
use Rattle.std.proofs.Common.{◌≡◌, List, Option, Some, None, subst}
use Rattle.cl_shapes.specs.declared.function.CostFn.{CostFn}
use Rattle.cl_costs.specs.Tables.{function_of}
use Rattle.cl_bound.specs.declared.known.KnownBounds.{KnownBounds}
use Rattle.cl_nodes.specs.declared.contracts.Contracts.{Contracts as ContractsOfCode}
use Rattle.cl_nodes.specs.Bounded.{AreBounded, AreUnder, IsWhole}

pub bounds_computed : (c : ContractsOfCode) (r : Option KnownBounds) (b : KnownBounds) → r ≡ Some b → (table : List CostFn) → AreUnder c table r → AreBounded (function_of table) c.deployed b
bounds_computed c r b is table under = subst (λ (x : Option KnownBounds). AreUnder c table x) is under

pub bounds_kept : (c : ContractsOfCode) (r : Option KnownBounds) → r ≡ None → IsWhole c → (table : List CostFn) → AreUnder c table r → AreBounded (function_of table) c.deployed c.bounds
bounds_kept c r is whole table under =
    subst (λ (t : List CostFn). AreBounded (function_of t) c.deployed c.bounds) (subst (λ (x : Option KnownBounds). AreUnder c table x) is under) whole
