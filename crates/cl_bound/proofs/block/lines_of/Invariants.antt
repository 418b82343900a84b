use Rattle.std.proofs.Common.{◌≡◌, List, [], map, take}
use Rattle.std.specs.List.{flat_map}
use Rattle.cl_rules.specs.Context.{CostTable, Known}
use Rattle.cl_contracts.specs.Seen.{contract_seen}
use Rattle.cl_contracts.specs.Standings.{AreStanding}
use Rattle.cl_tx.specs.Rebounds.{rebounds_of}
use Rattle.cl_bound.specs.Known.{AreBounds}
use Rattle.cl_bound.proofs.block.lines_of.Given as goal

abbrev pub invariant-loop-place : goal.invariant-loop-place
invariant-loop-place l =
    (table : CostTable) (callers : List Known) → AreStanding [] l.contracts.entries callers → AreBounds table l.contracts.entries l.known →
    l.lines.items ≡ flat_map (rebounds_of table callers) (map contract_seen (take l.place l.contracts.entries))
